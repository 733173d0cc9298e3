use Rattle.std.proofs.Common.{◌∙◌, ◌+◌, ◌++◌, sym, ap}
use Rattle.std.proofs.lemmas.Result.{on_ok_weaker}
use Rattle.hl_meaning.specs.Layout.{kinds_in}
use Rattle.hl_meaning.specs.Views.{plain_ty}
use Rattle.hl_meaning.proofs.Plain.{plain_ty-Array, plain_ty-Scalar, plain_ty-Struct, plain_ty-Vector, plain_ty-Void}
use Rattle.hl_types.specs.Kinds.{kinds_front}
use Rattle.hl_types.specs.Listing.{finished, type_weight, weights_front}
use Rattle.hl_types.proofs.ListingLemmas.{array-none, finished-same, weight-array, weight-whole}
use Rattle.hl_types.proofs.kinds.+begin_type.Goals as goal

pub returns-in-Void-clause-listed : goal.returns-in-Void-clause-listed
returns-in-Void-clause-listed t c =
    finished-same c.args.structs.now c.args.steps.now.items c.args.kinds.now _ (ap (kinds_in (kinds_front c.args.structs.now c.args.bound)) (ap plain_ty c.in-Void.is ∙ plain_ty-Void))

pub returns-in-Scalar-clause-listed : goal.returns-in-Scalar-clause-listed
returns-in-Scalar-clause-listed t c =
    let front = kinds_front c.args.structs.now c.args.bound in
    on_ok_weaker c.add.result
    (λ e. ap (finished c.args.structs.now c.args.steps.now.items) (e ∙ ap (λ l. c.args.kinds.now ++ l) (sym (ap (kinds_in front) (ap plain_ty c.in-Scalar.is ∙ plain_ty-Scalar _)))))
    c.add.ensures

pub returns-in-Vector-clause-listed : goal.returns-in-Vector-clause-listed
returns-in-Vector-clause-listed t c =
    let front = kinds_front c.args.structs.now c.args.bound in
    on_ok_weaker c.add-in-Vector.result
    (λ e. ap (finished c.args.structs.now c.args.steps.now.items) (e ∙ ap (λ l. c.args.kinds.now ++ l) (sym (ap (kinds_in front) (ap plain_ty c.in-Vector.is ∙ plain_ty-Vector _ _)))))
    c.add-in-Vector.ensures

pub returns-then-count-eq0-clause-listed : goal.returns-then-count-eq0-clause-listed
returns-then-count-eq0-clause-listed t c =
    finished-same c.args.structs.now c.args.steps.now.items c.args.kinds.now _
    (array-none c.in-Array.count (kinds_front c.args.structs.now c.args.bound) (plain_ty c.args.ty.now) (plain_ty c.in-Array.element) c.if-count-eq0.true (ap plain_ty c.in-Array.is ∙ plain_ty-Array _ _))

pub returns-in_ok-begin_array-in-Array-clause-listed : goal.returns-in_ok-begin_array-in-Array-clause-listed
returns-in_ok-begin_array-in-Array-clause-listed t c =
    let structs = c.args.structs.now in
    let front = kinds_front structs c.args.bound in
    let kinds = c.args.kinds.now in
    let is = ap plain_ty c.in-Array.is ∙ plain_ty-Array c.in-Array.element c.in-Array.count in
    on_ok_weaker c.begin_type.result
    (λ e. e ∙ (ap (λ x. finished structs c.begin_array.new.steps.items (kinds ++ kinds_in front (plain_ty x))) c.get.ensures ∙
    (c.in_ok-begin_array-in-Array.ensures.listed structs kinds (kinds_in front (plain_ty c.in-Array.element)) (sym c.len.ensures.value) ∙
    ap (λ l. finished structs c.args.steps.now.items (kinds ++ l)) (sym (ap (kinds_in front) is)))))
    c.begin_type.ensures.listed

pub returns-in_ok-begin_array-in-Array-clause-weight : goal.returns-in_ok-begin_array-in-Array-clause-weight
returns-in_ok-begin_array-in-Array-clause-weight t c =
    let weights = weights_front c.args.structs.now c.args.bound in
    let is = ap plain_ty c.in-Array.is ∙ plain_ty-Array c.in-Array.element c.in-Array.count in
    on_ok_weaker c.begin_type.result
    (λ e. weight-array _ _ _ _ _ e (c.in_ok-begin_array-in-Array.ensures.weight c.args.structs.now) (ap (type_weight weights) is ∙ ap (λ x. 1 + type_weight weights (plain_ty x)) (sym c.get.ensures)))
    c.begin_type.ensures.weight

pub returns-in-Struct-clause-listed : goal.returns-in-Struct-clause-listed
returns-in-Struct-clause-listed t c =
    let structs = c.args.structs.now in
    let front = kinds_front structs c.args.bound in
    let kinds = c.args.kinds.now in
    on_ok_weaker c.begin_struct.result
    (λ e. e kinds ∙ ap (λ l. finished structs c.args.steps.now.items (kinds ++ l)) (sym (ap (kinds_in front) (ap plain_ty c.in-Struct.is ∙ plain_ty-Struct _))))
    c.begin_struct.ensures.listed

pub returns-in-Struct-clause-weight : goal.returns-in-Struct-clause-weight
returns-in-Struct-clause-weight t c =
    on_ok_weaker c.begin_struct.result
    (λ e. weight-whole _ _ _ _ e (ap (type_weight (weights_front c.args.structs.now c.args.bound)) (ap plain_ty c.in-Struct.is ∙ plain_ty-Struct _)))
    c.begin_struct.ensures.weight
