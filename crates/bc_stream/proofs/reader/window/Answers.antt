use Rattle.std.proofs.Common.{◌/◌, subst}
use Rattle.std.proofs.lemmas.List.{take_rest}
use Rattle.bc_stream.specs.Reading.{IsFront}
use Rattle.bc_stream.proofs.ReaderLemmas.{window_of}
use Rattle.bc_stream.proofs.reader.window.Goals as goal

pub returns : goal.returns
returns c =
    let bytes = c.args.bytes.now in
    let at = c.args.at in
    let word = c.first_word.result in
    window_of bytes at word c.requires.within (subst (λ rest. IsFront rest word) (take_rest bytes (at / 8)) c.first_word.ensures)
