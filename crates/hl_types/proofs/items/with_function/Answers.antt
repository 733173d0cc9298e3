use Rattle.std.proofs.Common.{◌∙◌, sym, ap, List, [], ◌∷◌, map, None, Some, option_map}
use Rattle.std.proofs.lemmas.List.{map-append}
use Rattle.hl_meaning.specs.declared.program.FunctionDef.{FunctionDef}
use Rattle.hl_meaning.specs.Programs as plain
use Rattle.hl_meaning.specs.Views.{plain_function}
use Rattle.hl_rules.specs.Elaboration.{both_lists}
use Rattle.hl_types.proofs.items.with_function.Goals as goal

abbrev all : List FunctionDef → List plain.FunctionDef
all l = map plain_function l

abbrev one : plain.FunctionDef → List plain.FunctionDef
one f = f ∷ []

pub returns-in_default : goal.returns-in_default
returns-in_default c =
    sym (ap (λ o. both_lists (option_map all o) (option_map one (option_map plain_function c.args.made))) c.in_default.is)

pub returns-in_default-made : goal.returns-in_default-made
returns-in_default-made c =
    sym (ap (λ o. both_lists (option_map all c.args.functions) (option_map one (option_map plain_function o))) c.in_default-made.is ∙
    ap (λ o. both_lists (option_map all o) None) c.in-Some.is)

pub returns : goal.returns
returns c =
    ap Some (ap all c.in_ok-push.ensures.ok ∙ map-append plain_function c.in-Some.functions (c.in-Some-made.made ∷ [])) ∙
    sym (ap (λ o. both_lists (option_map all c.args.functions) (option_map one (option_map plain_function o))) c.in-Some-made.is ∙
    ap (λ o. both_lists (option_map all o) (Some (plain_function c.in-Some-made.made ∷ []))) c.in-Some.is)
