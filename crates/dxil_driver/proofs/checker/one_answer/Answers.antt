-- The laws of the layers, put together.
use Rattle.dxil_driver.proofs.OneAnswer.{has_one_answer}
use Rattle.dxil_driver.proofs.checker.one_answer.Goals as goal

pub returns : goal.returns
returns c = has_one_answer (record {
  contents = c.at_most_one_content.ensures;
  container_faults = c.at_most_one_fault.ensures;
  no_container_fault = c.contained_has_no_fault.ensures;
  lists = c.one_list.ensures;
  stream_faults = c.one_fault.ensures;
  no_stream_fault = c.no_fault_in_a_spelling.ensures;
  modules = c.one_module.ensures;
  record_faults = c.one_record_fault.ensures;
  no_record_fault = c.no_record_fault.ensures;
})
