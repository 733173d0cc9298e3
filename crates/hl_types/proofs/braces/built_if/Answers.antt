use Rattle.std.proofs.Common.{◌∙◌, Option, sym, map, option_map}
use Rattle.std.proofs.lemmas.Result.{IfOk-weaker}
use Rattle.hl_meaning.specs.Trees.{Expr, an_expr, build_form}
use Rattle.hl_meaning.specs.Views.{plain_ty}
use Rattle.hl_rules.specs.Scopes.{type_words}
use Rattle.hl_types.specs.Kinds.{type_kinds}
use Rattle.hl_types.specs.Leaves.{leaves_in}
use Rattle.hl_values.specs.StructTables.{plain_structs}
use Rattle.hl_values.specs.Views.{plain_code_if}
use Rattle.hl_types.proofs.LeafLemmas.{when-known, when-unknown}
use Rattle.hl_types.proofs.braces.built_if.Goals as goal

pub returns-in-Some : goal.returns-in-Some
returns-in-Some c =
    let ty = plain_ty c.args.ty.now in
    let made : Option Expr = option_map (λ leaves. an_expr ty c.args.at (build_form leaves)) (leaves_in (type_kinds c.args.structs.now ty) (map plain_code_if c.args.codes.items)) in
    IfOk-weaker c.built.result _ _
    (λ e is. is ∙ when-known made (type_words (plain_structs c.args.structs.now) ty) c.in-Some.field-0 (sym c.in-Some.is ∙ c.type_words.ensures)) c.built.ensures

pub returns-in-None : goal.returns-in-None
returns-in-None c =
    let ty = plain_ty c.args.ty.now in
    let made : Option Expr = option_map (λ leaves. an_expr ty c.args.at (build_form leaves)) (leaves_in (type_kinds c.args.structs.now ty) (map plain_code_if c.args.codes.items)) in
    when-unknown made (type_words (plain_structs c.args.structs.now) ty) (sym c.in-None.is ∙ c.type_words.ensures)
