use Rattle.std.proofs.Common.{◌∙◌, sym, ap, option_map, ◌<◌, ◌*◌, arith, rules, Some}
use Rattle.hl_meaning.specs.Views.{plain_ty}
use Rattle.hl_meaning.proofs.Plain.{plain_ty-Void, plain_ty-Scalar, plain_ty-Vector, plain_ty-Array, plain_ty-Struct}
use Rattle.hl_rules.specs.Scopes.{type_words}
use Rattle.hl_values.specs.declared.words.WordCount.TheVariants.{Few}
use Rattle.hl_values.specs.StructTables.{plain_structs}
use Rattle.hl_values.specs.WordCounts.{counted}
use Rattle.hl_values.proofs.WordLemmas.{counted-few, times-known, times-unknown}
use Rattle.hl_values.proofs.structs.Structs.+type_words.Goals as goal

pub returns-in-Void : goal.returns-in-Void
returns-in-Void t c =
    sym (ap (λ ty. option_map counted (type_words (plain_structs c.args.self.now) ty)) (ap plain_ty c.in-Void.is ∙ plain_ty-Void))

pub returns-in-Scalar : goal.returns-in-Scalar
returns-in-Scalar t c =
    sym (ap (λ ty. option_map counted (type_words (plain_structs c.args.self.now) ty)) (ap plain_ty c.in-Scalar.is ∙ plain_ty-Scalar _))

pub returns-in-Vector : goal.returns-in-Vector
returns-in-Vector t c =
    let small : c.in-Vector.size < 256 = search rules in
    ap (λ w. Some (Few w)) c.from.ensures ∙ sym (ap (λ ty. option_map counted (type_words (plain_structs c.args.self.now) ty)) (ap plain_ty c.in-Vector.is ∙ plain_ty-Vector _ _) ∙
    ap (λ w. Some w) (counted-few c.in-Vector.size (omega (arith, small))))

pub returns-in_err-words-in-Array : goal.returns-in_err-words-in-Array
returns-in_err-words-in-Array t c =
    c.from_residual.ensures ∙
    (times-unknown (type_words (plain_structs c.args.self.now) (plain_ty c.in-Array.element)) (λ w. c.in-Array.length * w)
    (c.in_err-words-in-Array.ensures ∙ ap (λ ty. option_map counted (type_words (plain_structs c.args.self.now) (plain_ty ty))) c.get.ensures) ∙
    sym (ap (λ ty. option_map counted (type_words (plain_structs c.args.self.now) ty)) (ap plain_ty c.in-Array.is ∙ plain_ty-Array _ _)))

pub returns-in_ok-words-in-Array : goal.returns-in_ok-words-in-Array
returns-in_ok-words-in-Array t c =
    times-known (type_words (plain_structs c.args.self.now) (plain_ty c.in-Array.element)) c.in_ok-words-in-Array.words c.times.result c.in-Array.length
    (c.in_ok-words-in-Array.ensures ∙ ap (λ ty. option_map counted (type_words (plain_structs c.args.self.now) (plain_ty ty))) c.get.ensures) c.times.ensures ∙
    sym (ap (λ ty. option_map counted (type_words (plain_structs c.args.self.now) ty)) (ap plain_ty c.in-Array.is ∙ plain_ty-Array _ _))

pub returns-in-Struct : goal.returns-in-Struct
returns-in-Struct t c =
    c.words.ensures ∙ sym (ap (λ ty. option_map counted (type_words (plain_structs c.args.self.now) ty)) (ap plain_ty c.in-Struct.is ∙ plain_ty-Struct _))
