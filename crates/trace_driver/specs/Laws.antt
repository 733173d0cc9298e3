-- What holds of all words and texts.
use Rattle.std.specs.Prelude.{◌≡◌, ℕ, List}
use Rattle.dxil_driver.specs.declared.refusal.Refusal.TheVariants.{NotBuilt}
use Rattle.trace_driver.specs.Requests.{Asks}
use Rattle.trace_driver.specs.Traces.{Refuses, Traces}
use Rattle.trace_driver.specs.declared.request.Request.{Request}

-- words ask for at most one lane
abbrev pub AtMostOneRequest : Type 0
AtMostOneRequest = (words : List (List ℕ)) (one other : Request) → Asks words one → Asks words other → one ≡ other

-- a text has at most one list of lines for a request
abbrev pub AtMostOneTrace : Type 0
AtMostOneTrace = (request : Request) (text one other : List ℕ) → Traces request text one → Traces request text other → one ≡ other

-- no text is refused as one that isn't built
abbrev pub NeverNotBuilt : Type 0
NeverNotBuilt = (request : Request) (text : List ℕ) → ¬ Refuses request text NotBuilt
