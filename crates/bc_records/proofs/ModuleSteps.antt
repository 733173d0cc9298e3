-- The parts of a module, one after the other.
use Rattle.std.proofs.Common.{◌≡◌, ℕ, ◌+◌, ◌<◌, ◌≤◌, List, [], ◌∷◌, ◌++◌, Some, None, Option, map, length, drop, get_or, refl, ap, sym, ◌∙◌}
use Rattle.std.specs.Option.{option_map_or}
use Rattle.std.proofs.lemmas.List.{drop_more, drop_all}
use Rattle.ir_core.specs.declared.instruction.Body.{Body}
use Rattle.ir_core.specs.declared.module.Function.{Function}
use Rattle.ir_core.specs.declared.module.Module.{Module}
use Rattle.ir_core.specs.Values.{bodies}
use Rattle.bc_stream.specs.Blocks.{Contents, no_more, a_block, append}
use Rattle.bc_stream.proofs.BlockLemmas.{append-append}
use Rattle.bc_records.specs.Written.{function_entry, body_contents, bodies_contents, constants_contents, header_contents, metadata_contents, module_contents, symbols_contents, tables_contents}
use Rattle.bc_records.proofs.Steps.{alone, append-listed, append_none, one_step}

-- the records of functions

pub function_step : (functions : List Function) (i : ℕ) (x : Function) (old new whole : Contents) → i < length functions → x ≡ get_or functions i x →
    new ≡ append old (alone (function_entry x ∷ [])) →
    append old (alone (map function_entry (drop i functions))) ≡ whole → append new (alone (map function_entry (drop (i + 1) functions))) ≡ whole
function_step functions i x old new whole below is pushed so_far =
    one_step old new whole (function_entry x ∷ []) (map function_entry (drop (i + 1) functions)) (map function_entry (drop i functions))
    (ap (map function_entry) (drop_more functions i x below ∙ ap (λ y. y ∷ drop (i + 1) functions) (sym is))) pushed so_far

pub function_stop : (functions : List Function) (i : ℕ) (old whole : Contents) → length functions ≤ i →
    append old (alone (map function_entry (drop i functions))) ≡ whole → old ≡ whole
function_stop functions i old whole past so_far =
    sym (append_none old) ∙ (ap (λ fs. append old (alone (map function_entry fs))) (sym (drop_all i functions past)) ∙ so_far)

-- the blocks of bodies

first_body : (body : Option Body) (f : Function) (rest : List (Function × Body)) →
    option_map_or (λ b. (f, b) ∷ rest) body rest ≡ option_map_or (λ b. (f, b) ∷ []) body [] ++ rest
first_body None f rest = refl
first_body (Some body) f rest = refl

module _ (m : Module) where
  bodies-append : (first second : List (Function × Body)) → bodies_contents m (first ++ second) ≡ append (bodies_contents m first) (bodies_contents m second)
  bodies-append [] second = refl
  bodies-append (b ∷ first) second = ap (a_block 12 (body_contents m b.0 b.1)) (bodies-append first second)

  pub body_step : (functions : List Function) (i : ℕ) (x : Function) (old new whole : Contents) → i < length functions → x ≡ get_or functions i x →
      new ≡ append old (bodies_contents m (bodies (x ∷ []))) →
      append old (bodies_contents m (bodies (drop i functions))) ≡ whole → append new (bodies_contents m (bodies (drop (i + 1) functions))) ≡ whole
  body_step functions i x old new whole below is pushed so_far =
      let rest : List (Function × Body) = bodies (drop (i + 1) functions) in
      ap (λ c. append c (bodies_contents m rest)) pushed
      ∙ (append-append old (bodies_contents m (bodies (x ∷ []))) (bodies_contents m rest)
      ∙ (ap (append old) (sym (bodies-append (bodies (x ∷ [])) rest)
      ∙ ap (bodies_contents m) (sym (first_body x.body x rest)
      ∙ ap bodies (sym (drop_more functions i x below ∙ ap (λ y. y ∷ drop (i + 1) functions) (sym is)))))
      ∙ so_far))

  pub body_stop : (functions : List Function) (i : ℕ) (old whole : Contents) → length functions ≤ i →
      append old (bodies_contents m (bodies (drop i functions))) ≡ whole → old ≡ whole
  body_stop functions i old whole past so_far =
      sym (append_none old) ∙ (ap (λ fs. append old (bodies_contents m (bodies fs))) (sym (drop_all i functions past)) ∙ so_far)

-- one after the other

pub three : (old one two all a b c : Contents) → one ≡ append old a → two ≡ append one b → all ≡ append two c → all ≡ append old (append a (append b c))
three old one two all a b c first second third =
    third
    ∙ (ap (λ p. append p c) (second ∙ ap (λ p. append p b) first)
    ∙ (append-append (append old a) b c ∙ append-append old a (append b c)))

pub tables_pushed : (m : Module) (old one two all constants metadata symbols : Contents) →
    constants ≡ constants_contents m.consts → metadata ≡ metadata_contents m.metas m.named → symbols ≡ symbols_contents m.functions →
    one ≡ append old (a_block 11 constants no_more) → two ≡ append one (a_block 15 metadata no_more) → all ≡ append two (a_block 14 symbols no_more) →
    all ≡ append old (tables_contents m no_more)
tables_pushed m old one two all constants metadata symbols c_is d_is s_is first second third =
    three old one two all (a_block 11 constants no_more) (a_block 15 metadata no_more) (a_block 14 symbols no_more) first second third
    ∙ ap (append old)
    (ap (λ c. a_block 11 c (a_block 15 metadata (a_block 14 symbols no_more))) c_is
    ∙ (ap (λ d. a_block 11 (constants_contents m.consts) (a_block 15 d (a_block 14 symbols no_more))) d_is
    ∙ ap (λ s. a_block 11 (constants_contents m.consts) (a_block 15 (metadata_contents m.metas m.named) (a_block 14 s no_more))) s_is))

pub module_pushed : (m : Module) (header functions tables all : Contents) →
    header ≡ header_contents m no_more → functions ≡ append header (alone (map function_entry m.functions)) →
    tables ≡ append functions (tables_contents m no_more) → all ≡ append tables (bodies_contents m (bodies m.functions)) →
    all ≡ module_contents m
module_pushed m header functions tables all h_is first second third =
    three header functions tables all (alone (map function_entry m.functions)) (tables_contents m no_more) (bodies_contents m (bodies m.functions)) first second third
    ∙ (ap (λ c. append c (append (alone (map function_entry m.functions)) (tables_contents m (bodies_contents m (bodies m.functions))))) h_is
    ∙ ap (header_contents m) (append-listed (map function_entry m.functions) (tables_contents m (bodies_contents m (bodies m.functions)))))
