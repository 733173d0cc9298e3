use Rattle.std.proofs.Common.{◌≡◌, ◌∙◌, refl, sym, ap, ◌+◌, ◌<◌, ◌≤◌, false, true, [], ◌∷◌, length, arith, rules}
use Rattle.std.proofs.lemmas.Result.{IfOk-weaker}
use Rattle.hl_meaning.proofs.Plain.{plain_form-Atomic, plain_form-Binary, plain_form-Build, plain_form-Call, plain_form-Choose, plain_form-Convert, plain_form-Intrinsic, plain_form-Literal, plain_form-Method, plain_form-Pick, plain_form-Read, plain_form-Unary, plain_form-Write, plain_location-is, plain_part-Index, plain_part-Member, plain_part-Swizzle, plain_root-Constant, plain_root-Element, plain_root-Shared, plain_root-Variable, plain_target-Bytes, plain_target-Place}
use Rattle.hl_meaning.specs.Views.{plain_expr, plain_exprs, plain_form, plain_location, plain_maybe_expr, plain_maybe_location, plain_part, plain_parts, plain_root, plain_target}
use Rattle.hl_inline.specs.LastCalls.{Finds, expr_if_path, expr_path, exprs_paths, part_path, parts_paths, path_among, path_from, place_if_path, place_path, root_path, target_path}
use Rattle.hl_inline.proofs.LastCallLemmas.{begins-back, ends-back, finds-as, finds-nothing, finds-ok, found-behind, found-here, found-none, held-part_path, held-part_paths, held-path, held-paths, path-as, turn-back}
use Rattle.hl_inline.proofs.searching.+searching.Goals as goal

-- ---- expressions

pub find_call-returns-in-Literal : goal.find_call-returns-in-Literal
find_call-returns-in-Literal t c =
    finds-as c.args.numbers.now c.args.numbers.now false [] (held-path c.args.expr.now) (path-as c.args.expr.now _ (ap plain_form c.in-Literal.is ∙ plain_form-Literal _)) (finds-nothing c.args.numbers.now)

pub find_call-returns-in-Read : goal.find_call-returns-in-Read
find_call-returns-in-Read t c =
    finds-ok c.args.numbers.now c.find_in_place.new.numbers c.find_in_place.result (place_path (plain_location c.in-Read.place)) (held-path c.args.expr.now)
    (path-as c.args.expr.now _ (ap plain_form c.in-Read.is ∙ plain_form-Read _)) c.find_in_place.ensures

pub find_call-returns-in_ok-found-in-Write : goal.find_call-returns-in_ok-found-in-Write
find_call-returns-in_ok-found-in-Write t c =
    let to = place_path (plain_location c.in-Write.to) in
    let value = held-path c.get.result.now in
    finds-ok c.args.numbers.now c.search_place.new.numbers c.search_place.result (path_among (to ∷ value ∷ [])) (held-path c.args.expr.now)
    (path-as c.args.expr.now _ (ap plain_form c.in-Write.is ∙ plain_form-Write _ _ _ _ _) ∙ ap (λ v. path_among (place_path (plain_location c.in-Write.to) ∷ held-path v ∷ [])) (sym c.get.ensures))
    (c.search_place.ensures c.args.numbers.now (value ∷ []) (c.in_ok-found-in-Write.ensures c.args.numbers.now [] (finds-nothing c.args.numbers.now)))

pub find_call-returns-in-Convert : goal.find_call-returns-in-Convert
find_call-returns-in-Convert t c =
    finds-ok c.args.numbers.now c.find_call.new.numbers c.find_call.result (held-path c.get-in-Convert.result.now) (held-path c.args.expr.now)
    (path-as c.args.expr.now _ (ap plain_form c.in-Convert.is ∙ plain_form-Convert _) ∙ ap held-path (sym c.get-in-Convert.ensures)) c.find_call.ensures

pub find_call-returns-in-Unary : goal.find_call-returns-in-Unary
find_call-returns-in-Unary t c =
    finds-ok c.args.numbers.now c.find_call-in-Unary.new.numbers c.find_call-in-Unary.result (held-path c.get-in-Unary.result.now) (held-path c.args.expr.now)
    (path-as c.args.expr.now _ (ap plain_form c.in-Unary.is ∙ plain_form-Unary _ _) ∙ ap held-path (sym c.get-in-Unary.ensures)) c.find_call-in-Unary.ensures

pub find_call-returns-in-Pick : goal.find_call-returns-in-Pick
find_call-returns-in-Pick t c =
    finds-ok c.args.numbers.now c.find_call-in-Pick.new.numbers c.find_call-in-Pick.result (held-path c.get-in-Pick.result.now) (held-path c.args.expr.now)
    (path-as c.args.expr.now _ (ap plain_form c.in-Pick.is ∙ plain_form-Pick _ _) ∙ ap held-path (sym c.get-in-Pick.ensures)) c.find_call-in-Pick.ensures

pub find_call-returns-in_ok-found-in-Binary : goal.find_call-returns-in_ok-found-in-Binary
find_call-returns-in_ok-found-in-Binary t c =
    let right = held-path c.get-in-Binary.result.now in
    let left = held-path c.get-in-Binary-2.result.now in
    finds-ok c.args.numbers.now c.search-in-Binary-2.new.numbers c.search-in-Binary-2.result (path_among (left ∷ right ∷ [])) (held-path c.args.expr.now)
    (path-as c.args.expr.now _ (ap plain_form c.in-Binary.is ∙ plain_form-Binary _ _ _) ∙
    (ap (λ v. path_among (held-path v ∷ held-path c.in-Binary.right ∷ [])) (sym c.get-in-Binary-2.ensures) ∙ ap (λ v. path_among (held-path c.get-in-Binary-2.result.now ∷ held-path v ∷ [])) (sym c.get-in-Binary.ensures)))
    (c.search-in-Binary-2.ensures c.args.numbers.now (right ∷ []) (c.in_ok-found-in-Binary.ensures c.args.numbers.now [] (finds-nothing c.args.numbers.now)))

pub find_call-returns-in_ok-found-in-Choose-2 : goal.find_call-returns-in_ok-found-in-Choose-2
find_call-returns-in_ok-found-in-Choose-2 t c =
    let before = c.args.numbers.now in
    let no = held-path c.get-in-Choose.result.now in
    let yes = held-path c.get-in-Choose-2.result.now in
    let cond = held-path c.get-in-Choose-3.result.now in
    finds-ok before c.search-in-Choose-3.new.numbers c.search-in-Choose-3.result (path_among (cond ∷ yes ∷ no ∷ [])) (held-path c.args.expr.now)
    (path-as c.args.expr.now _ (ap plain_form c.in-Choose.is ∙ plain_form-Choose _ _ _) ∙
    (ap (λ v. path_among (held-path v ∷ held-path c.in-Choose.yes ∷ held-path c.in-Choose.no ∷ [])) (sym c.get-in-Choose-3.ensures) ∙
    (ap (λ v. path_among (held-path c.get-in-Choose-3.result.now ∷ held-path v ∷ held-path c.in-Choose.no ∷ [])) (sym c.get-in-Choose-2.ensures) ∙
    ap (λ v. path_among (held-path c.get-in-Choose-3.result.now ∷ held-path c.get-in-Choose-2.result.now ∷ held-path v ∷ [])) (sym c.get-in-Choose.ensures))))
    (c.search-in-Choose-3.ensures before (yes ∷ no ∷ []) (c.in_ok-found-in-Choose-2.ensures before (no ∷ []) (c.in_ok-found-in-Choose.ensures before [] (finds-nothing before))))

pub find_call-returns-in-Build : goal.find_call-returns-in-Build
find_call-returns-in-Build t c =
    finds-ok c.args.numbers.now c.find_in_exprs.new.numbers c.find_in_exprs.result (path_among (held-paths c.as_slice.result.now)) (held-path c.args.expr.now)
    (path-as c.args.expr.now _ (ap plain_form c.in-Build.is ∙ plain_form-Build _) ∙ ap (λ l. path_among (held-paths l)) (sym c.as_slice.ensures)) c.find_in_exprs.ensures

pub find_call-returns-in-Intrinsic : goal.find_call-returns-in-Intrinsic
find_call-returns-in-Intrinsic t c =
    finds-ok c.args.numbers.now c.find_in_exprs-in-Intrinsic.new.numbers c.find_in_exprs-in-Intrinsic.result (path_among (held-paths c.as_slice-in-Intrinsic.result.now)) (held-path c.args.expr.now)
    (path-as c.args.expr.now _ (ap plain_form c.in-Intrinsic.is ∙ plain_form-Intrinsic _ _) ∙ ap (λ l. path_among (held-paths l)) (sym c.as_slice-in-Intrinsic.ensures)) c.find_in_exprs-in-Intrinsic.ensures

pub find_call-returns-in_ok-push-in-Call : goal.find_call-returns-in_ok-push-in-Call
find_call-returns-in_ok-push-in-Call t c =
    finds-as c.args.numbers.now c.push.new.self true (0 ∷ []) (held-path c.args.expr.now) (path-as c.args.expr.now _ (ap plain_form c.in-Call.is ∙ plain_form-Call _ _)) (c.in_ok-push-in-Call.ensures.ok, refl)

pub find_call-returns-in_ok-found-in-Method : goal.find_call-returns-in_ok-found-in-Method
find_call-returns-in_ok-found-in-Method t c =
    let value = expr_if_path (plain_maybe_expr c.in-Method.value) in
    finds-ok c.args.numbers.now c.search-in-Method.new.numbers c.search-in-Method.result (path_among (held-path c.get-in-Method.result.now ∷ value ∷ [])) (held-path c.args.expr.now)
    (path-as c.args.expr.now _ (ap plain_form c.in-Method.is ∙ plain_form-Method _ _ _ _) ∙ ap (λ v. path_among (held-path v ∷ expr_if_path (plain_maybe_expr c.in-Method.value) ∷ [])) (sym c.get-in-Method.ensures))
    (c.search-in-Method.ensures c.args.numbers.now (value ∷ []) (c.in_ok-found-in-Method.ensures c.args.numbers.now [] (finds-nothing c.args.numbers.now)))

pub find_call-returns-in_ok-found-in-Atomic-3 : goal.find_call-returns-in_ok-found-in-Atomic-3
find_call-returns-in_ok-found-in-Atomic-3 t c =
    let before = c.args.numbers.now in
    let target = target_path (plain_target c.in-Atomic.target) in
    let compare = expr_if_path (plain_maybe_expr c.in-Atomic.compare) in
    let value = held-path c.get-in-Atomic.result.now in
    let original = place_if_path (plain_maybe_location c.in-Atomic.original) in
    finds-ok before c.search_target.new.numbers c.search_target.result (path_among (target ∷ compare ∷ value ∷ original ∷ [])) (held-path c.args.expr.now)
    (path-as c.args.expr.now _ (ap plain_form c.in-Atomic.is ∙ plain_form-Atomic _ _ _ _ _) ∙
    ap (λ v. path_among (target_path (plain_target c.in-Atomic.target) ∷ expr_if_path (plain_maybe_expr c.in-Atomic.compare) ∷ held-path v ∷ place_if_path (plain_maybe_location c.in-Atomic.original) ∷ [])) (sym c.get-in-Atomic.ensures))
    (c.search_target.ensures before (compare ∷ value ∷ original ∷ []) (c.in_ok-found-in-Atomic-3.ensures before (value ∷ original ∷ [])
    (c.in_ok-found-in-Atomic-2.ensures before (original ∷ []) (c.in_ok-found-in-Atomic.ensures before [] (finds-nothing before)))))

-- ---- operands

pub search-returns-then-found : goal.search-returns-then-found
search-returns-then-found t c = λ before behind f.
    found-behind before c.args.numbers.now c.args.found c.args.number (held-path c.args.expr.now) behind c.if-found.true f

pub search-returns : goal.search-returns
search-returns t c = λ before behind f.
    IfOk-weaker c.add_number.result _ _ (λ r g. found-here before c.args.numbers.now c.find_call.new.numbers c.add_number.new.numbers c.args.found c.in_ok-found.found r c.args.number (held-path c.args.expr.now) behind
    c.if-found.false f c.in_ok-found.ensures g.0 g.1) c.add_number.ensures

pub search_place-returns-then-found : goal.search_place-returns-then-found
search_place-returns-then-found t c = λ before behind f.
    found-behind before c.args.numbers.now c.args.found c.args.number (place_path (plain_location c.args.place.now)) behind c.if-found.true f

pub search_place-returns : goal.search_place-returns
search_place-returns t c = λ before behind f.
    IfOk-weaker c.add_number.result _ _ (λ r g. found-here before c.args.numbers.now c.find_in_place.new.numbers c.add_number.new.numbers c.args.found c.in_ok-found.found r c.args.number (place_path (plain_location c.args.place.now)) behind
    c.if-found.false f c.in_ok-found.ensures g.0 g.1) c.add_number.ensures

pub search_if-returns-in-Some : goal.search_if-returns-in-Some
search_if-returns-in-Some t c = λ before behind f.
    finds-ok before c.search.new.numbers c.search.result (path_from c.args.number (held-path c.get.result.now ∷ behind)) (path_from c.args.number (expr_if_path (plain_maybe_expr c.args.value.now) ∷ behind))
    (ap (λ p. path_from c.args.number (p ∷ behind)) (ap (λ v. expr_if_path (plain_maybe_expr v)) c.in-Some.is ∙ ap held-path (sym c.get.ensures))) (c.search.ensures before behind f)

pub search_if-returns-in-None : goal.search_if-returns-in-None
search_if-returns-in-None t c = λ before behind f.
    found-none before c.args.numbers.now c.args.found c.args.number (expr_if_path (plain_maybe_expr c.args.value.now)) behind (ap (λ v. expr_if_path (plain_maybe_expr v)) c.in-None.is) f

pub search_place_if-returns-in-Some : goal.search_place_if-returns-in-Some
search_place_if-returns-in-Some t c = λ before behind f.
    finds-ok before c.search_place.new.numbers c.search_place.result (path_from c.args.number (place_path (plain_location c.in-Some.place) ∷ behind)) (path_from c.args.number (place_if_path (plain_maybe_location c.args.place.now) ∷ behind))
    (ap (λ p. path_from c.args.number (place_if_path (plain_maybe_location p) ∷ behind)) c.in-Some.is) (c.search_place.ensures before behind f)

pub search_place_if-returns-in-None : goal.search_place_if-returns-in-None
search_place_if-returns-in-None t c = λ before behind f.
    found-none before c.args.numbers.now c.args.found c.args.number (place_if_path (plain_maybe_location c.args.place.now)) behind (ap (λ v. place_if_path (plain_maybe_location v)) c.in-None.is) f

pub search_target-returns-in-Place : goal.search_target-returns-in-Place
search_target-returns-in-Place t c = λ before behind f.
    finds-ok before c.search_place.new.numbers c.search_place.result (path_from c.args.number (place_path (plain_location c.in-Place.place) ∷ behind)) (path_from c.args.number (target_path (plain_target c.args.target.now) ∷ behind))
    (ap (λ x. path_from c.args.number (target_path x ∷ behind)) (ap plain_target c.in-Place.is ∙ plain_target-Place _)) (c.search_place.ensures before behind f)

pub search_target-returns-in-Bytes : goal.search_target-returns-in-Bytes
search_target-returns-in-Bytes t c = λ before behind f.
    finds-ok before c.search.new.numbers c.search.result (path_from c.args.number (held-path c.get.result.now ∷ behind)) (path_from c.args.number (target_path (plain_target c.args.target.now) ∷ behind))
    (ap (λ p. path_from c.args.number (p ∷ behind)) (ap target_path (ap plain_target c.in-Bytes.is ∙ plain_target-Bytes _ _) ∙ ap held-path (sym c.get.ensures))) (c.search.ensures before behind f)

-- ---- places

pub search_root-returns-in-Element : goal.search_root-returns-in-Element
search_root-returns-in-Element t c = λ before behind f.
    finds-ok before c.search.new.numbers c.search.result (path_from c.args.number (held-path c.get.result.now ∷ behind)) (path_from c.args.number (root_path (plain_root c.args.root.now) ∷ behind))
    (ap (λ p. path_from c.args.number (p ∷ behind)) (ap root_path (ap plain_root c.in-Element.is ∙ plain_root-Element _ _) ∙ ap held-path (sym c.get.ensures))) (c.search.ensures before behind f)

pub search_root-returns-in-Variable : goal.search_root-returns-in-Variable
search_root-returns-in-Variable t c = λ before behind f.
    found-none before c.args.numbers.now c.args.found c.args.number (root_path (plain_root c.args.root.now)) behind (ap root_path (ap plain_root c.in-Variable.is ∙ plain_root-Variable _)) f

pub search_root-returns-in-Constant : goal.search_root-returns-in-Constant
search_root-returns-in-Constant t c = λ before behind f.
    found-none before c.args.numbers.now c.args.found c.args.number (root_path (plain_root c.args.root.now)) behind (ap root_path (ap plain_root c.in-Constant.is ∙ plain_root-Constant _)) f

pub search_root-returns-in-Shared : goal.search_root-returns-in-Shared
search_root-returns-in-Shared t c = λ before behind f.
    found-none before c.args.numbers.now c.args.found c.args.number (root_path (plain_root c.args.root.now)) behind (ap root_path (ap plain_root c.in-Shared.is ∙ plain_root-Shared _)) f

pub search_part-returns-in-Index : goal.search_part-returns-in-Index
search_part-returns-in-Index t c = λ before behind f.
    finds-ok before c.search.new.numbers c.search.result (path_from c.args.number (held-path c.get.result.now ∷ behind)) (path_from c.args.number (held-part_path c.args.part.now ∷ behind))
    (ap (λ p. path_from c.args.number (p ∷ behind)) (ap part_path (ap plain_part c.in-Index.is ∙ plain_part-Index _) ∙ ap held-path (sym c.get.ensures))) (c.search.ensures before behind f)

pub search_part-returns-in-Member : goal.search_part-returns-in-Member
search_part-returns-in-Member t c = λ before behind f.
    found-none before c.args.numbers.now c.args.found c.args.number (held-part_path c.args.part.now) behind (ap part_path (ap plain_part c.in-Member.is ∙ plain_part-Member _)) f

pub search_part-returns-in-Swizzle : goal.search_part-returns-in-Swizzle
search_part-returns-in-Swizzle t c = λ before behind f.
    found-none before c.args.numbers.now c.args.found c.args.number (held-part_path c.args.part.now) behind (ap part_path (ap plain_part c.in-Swizzle.is ∙ plain_part-Swizzle _)) f

pub find_in_place-returns : goal.find_in_place-returns
find_in_place-returns t c =
    let place = c.args.place.now in
    finds-ok c.args.numbers.now c.search_root.new.numbers c.search_root.result (path_among (root_path (plain_root place.root) ∷ held-part_paths c.as_slice.result.now)) (place_path (plain_location place))
    (ap place_path (plain_location-is place) ∙ ap (λ l. path_among (root_path (plain_root place.root) ∷ held-part_paths l)) (sym c.as_slice.ensures))
    (c.search_root.ensures c.args.numbers.now (held-part_paths c.as_slice.result.now) c.in_ok-found.ensures)

-- ---- lists

pub find_in_exprs-loop-index-init : goal.find_in_exprs-loop-index-init
find_in_exprs-loop-index-init t c = begins-back held-path held-paths refl (λ x xs. refl) c.args.numbers.now c.args.exprs.now _ _ (omega arith)

pub find_in_exprs-loop-index-preserved : goal.find_in_exprs-loop-index-preserved
find_in_exprs-loop-index-preserved t c =
    turn-back held-path held-paths refl (λ x xs. refl) c.args.numbers.now c.loop-index.numbers c.search.new.numbers c.loop-index.found c.in_ok-found.found c.args.exprs.now c.loop-index.index _ (c.loop-index.index + 1) c.index-exprs-index.result
    (omega arith) (omega arith) c.index-exprs-index.is (omega arith) c.loop-index.invariant c.in_ok-found.ensures

pub find_in_exprs-returns : goal.find_in_exprs-returns
find_in_exprs-returns t c =
    let none : c.loop-index.index ≡ 0 = omega arith in
    ends-back held-path held-paths refl (λ x xs. refl) c.args.numbers.now c.loop-index.numbers c.loop-index.found c.args.exprs.now c.loop-index.index (c.loop-index.index + 1) 1 none (omega (arith, none)) c.loop-index.invariant

pub find_in_parts-loop-index-init : goal.find_in_parts-loop-index-init
find_in_parts-loop-index-init t c = begins-back held-part_path held-part_paths refl (λ x xs. refl) c.args.numbers.now c.args.parts.now _ _ (omega arith)

pub find_in_parts-loop-index-preserved : goal.find_in_parts-loop-index-preserved
find_in_parts-loop-index-preserved t c =
    turn-back held-part_path held-part_paths refl (λ x xs. refl) c.args.numbers.now c.loop-index.numbers c.search_part.new.numbers c.loop-index.found c.in_ok-found.found c.args.parts.now c.loop-index.index _ (c.loop-index.index + 2) c.index-parts-index.result
    (omega arith) (omega arith) c.index-parts-index.is (omega arith) c.loop-index.invariant c.in_ok-found.ensures

pub find_in_parts-returns : goal.find_in_parts-returns
find_in_parts-returns t c =
    let none : c.loop-index.index ≡ 0 = omega arith in
    ends-back held-part_path held-part_paths refl (λ x xs. refl) c.args.numbers.now c.loop-index.numbers c.loop-index.found c.args.parts.now c.loop-index.index (c.loop-index.index + 2) 2 none (omega (arith, none)) c.loop-index.invariant
