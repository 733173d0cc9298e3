use Rattle.std.proofs.Common.{◌∙◌, refl, sym, ap, map, option_map}
use Rattle.hl_meaning.specs.Views.{plain_function}
use Rattle.hl_rules.specs.Statements.{struct_defs}
use Rattle.hl_types.specs.Items.{made_of}
use Rattle.hl_values.specs.ScopeViews.{scope_of}
use Rattle.hl_types.proofs.PartLemmas.{no-entry, no-functions, no-threads, parts-made}
use Rattle.hl_types.proofs.ScopeParts.{structs-in}
use Rattle.hl_types.proofs.items.program_parts.Goals as goal

pub returns-in_default : goal.returns-in_default
returns-in_default c =
    no-functions (scope_of c.args.scope.now) (made_of c.args.gathered) (ap (option_map (λ l. map plain_function l)) c.in_default.is)

pub returns-in_default-entry_number : goal.returns-in_default-entry_number
returns-in_default-entry_number c =
    no-entry (scope_of c.args.scope.now) (made_of c.args.gathered) (sym c.in_default-entry_number.ensures)

pub returns-in_default-threads : goal.returns-in_default-threads
returns-in_default-threads c =
    no-threads (scope_of c.args.scope.now) (made_of c.args.gathered) c.in_default-threads.is

pub returns : goal.returns
returns c =
    parts-made (scope_of c.args.scope.now) (made_of c.args.gathered) _ _ _ _ _ c.in-Ok.entry c.in-Some-entry_number.entry _
    (c.in_ok-structs.ensures ∙ ap struct_defs (sym (structs-in c.args.scope.now))) refl
    refl refl
    (ap (option_map (λ l. map plain_function l)) c.in-Some.is) (sym c.in-Some-entry_number.ensures) c.in-Ok.ensures.1 c.in-Some-threads.is
