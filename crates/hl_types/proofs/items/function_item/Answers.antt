use Rattle.std.proofs.Common.{◌∙◌, ap, List, [], ◌∷◌, map, option_map}
use Rattle.hl_meaning.specs.declared.program.FunctionDef.{FunctionDef}
use Rattle.hl_meaning.specs.Programs as plain
use Rattle.hl_meaning.specs.Views.{plain_function}
use Rattle.hl_parser.specs.Views.{plain_of, plain_trees}
use Rattle.hl_rules.specs.Declarations as declarations
use Rattle.hl_rules.specs.Elaboration.{both_lists, function_def}
use Rattle.hl_rules.specs.Rules.{noted}
use Rattle.hl_types.specs.Functions.{function_sites}
use Rattle.hl_types.specs.Items.{first_there}
use Rattle.hl_values.specs.ScopeViews.{scope_of}
use Rattle.hl_types.proofs.items.function_item.Goals as goal

abbrev all : List FunctionDef → List plain.FunctionDef
all l = map plain_function l

abbrev one : plain.FunctionDef → List plain.FunctionDef
one f = f ∷ []

pub returns-clause-functions : goal.returns-clause-functions
returns-clause-functions c =
    let s = scope_of c.args.scope.now in
    c.in_ok-gathered.ensures ∙
    (ap (λ o. both_lists (option_map all o) (option_map one (option_map plain_function c.in_ok-made.made))) c.take.ensures.value ∙
    (ap (λ o. both_lists (option_map all c.args.gathered.now.functions) (option_map one o)) c.in_ok-made.ensures.made ∙
    ap (λ l. both_lists (option_map all c.args.gathered.now.functions) (option_map one (function_def s (plain_of c.args.gives.now) c.args.name (plain_trees l) (plain_of c.args.block.now)))) c.as_slice-2.ensures))

pub returns-clause-threads : goal.returns-clause-threads
returns-clause-threads c = c.first_threads-gathered.ensures ∙ ap (first_there c.args.gathered.now.threads) c.entry_threads-threads.ensures

pub returns-clause-scope : goal.returns-clause-scope
returns-clause-scope c =
    c.in_ok-made.ensures.scope ∙ ap (λ l. declarations.with_function (scope_of c.args.scope.now) (plain_of c.args.gives.now) c.args.name (plain_trees l)) c.as_slice-2.ensures

pub returns-clause-found : goal.returns-clause-found
returns-clause-found c =
    let s = scope_of c.args.scope.now in
    c.in_ok-made.ensures.found ∙
    (ap (λ l. noted c.args.found.now (function_sites s (plain_trees l) (plain_of c.args.gives.now) c.args.name (plain_trees c.as_slice-2.result.now) (plain_of c.args.block.now))) c.as_slice.ensures ∙
    ap (λ l. noted c.args.found.now (function_sites s (plain_trees c.args.attributes.now) (plain_of c.args.gives.now) c.args.name (plain_trees l) (plain_of c.args.block.now))) c.as_slice-2.ensures)
