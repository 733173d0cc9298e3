-- Jumps become jumps of the program.
use Rattle.std.proofs.Common.{◌≡◌, ◌∙◌, ◌⊎◌, inl, inr, refl, sym, ap, ℕ, true, false, List, [], ◌∷◌, ◌++◌, None, Some}
use Rattle.std.specs.Prelude.{IsTrue, not, option_and_then, option_map, unwrap_or}
use Rattle.hl_lexer.specs.declared.terminal.Terminal.{Terminal}
use Rattle.hl_lexer.specs.declared.terminal.Terminal.TheVariants as terminals
use Rattle.hl_parser.specs.Grammar.{is_jump}
use Rattle.hl_parser.specs.Trees.{Tree, absent, at_of, present}
use Rattle.hl_meaning.specs.Types.{Ty, is_void, void_type}
use Rattle.hl_meaning.specs.Trees.{break_stmt, continue_stmt, return_stmt}
use Rattle.hl_meaning.specs.Places as places
use Rattle.hl_rules.specs.DeclarationRules.{is_return_word}
use Rattle.hl_rules.specs.ExpressionRules.{is_void_result}
use Rattle.hl_rules.specs.Expressions.{value_in}
use Rattle.hl_rules.specs.Parts.{a_conversion, a_loop_jump, a_return, site}
use Rattle.hl_rules.specs.Scopes.{Scope}
use Rattle.hl_rules.specs.Sites.{jump_sites, value_sites}
use Rattle.hl_rules.specs.Statements.{jump_code, one_stmt, return_code}
use Rattle.hl_rules.specs.Values.{type_in}
use Rattle.hl_rules.proofs.DeclaratorForms.{IsKnownResult}
use Rattle.hl_rules.proofs.Fitting.{Fits}
use Rattle.hl_rules.proofs.Free.{IsFree, free-first, free-left, free-rest, free-right, not_broken}
use Rattle.hl_rules.proofs.Options.{not-false}
use Rattle.hl_rules.proofs.Shapes.{IsExpression}
use Rattle.hl_rules.proofs.ScopeForms.{declared-there, names-fit}
use Rattle.hl_rules.proofs.ShortTypes.{declared-result}
use Rattle.hl_rules.proofs.Soundness.{IsSound}
use Rattle.hl_rules.proofs.StatementParts.{IsMade, one-made}
use Rattle.hl_rules.proofs.StructForms.{IsKnownType, known_words}
use Rattle.hl_rules.proofs.ValueForms.{ExpressionsBecome, IsInType, conversion-in, use-done}

-- the body of a function, whose result is known
pub record IsInBody (s : Scope) : Type 0 where
  pub sound : IsSound s
  pub result : IsKnownResult s s.result

-- ---- results

void-there : (ty : Ty) → is_void ty ≡ true → ty ≡ void_type
void-there void_type e = refl
void-there other e = absurd (cc e)

-- what the function gives where it isn't `void`
result-there : (s : Scope) (result : IsKnownResult s s.result) → is_void_result s.result ≡ false → is_void result.type ≡ false
result-there s result e = sym (ap is_void_result result.is) ∙ e

known-result : (words : List ℕ) (ty : Ty) → (ty ≡ void_type) ⊎ IsKnownType words ty → is_void ty ≡ false → IsKnownType words ty
known-result words ty (inl e) h = absurd (cc (sym h ∙ ap is_void e))
known-result words ty (inr known) h = known

same-result : (s : Scope) (ty : Ty) (env : places.Scope) → s.result ≡ Some ty → Fits env s → ty ≡ env.result
same-result s ty env e fits = ap (λ o. unwrap_or o ty) (sym e ∙ fits.result)

-- ---- `return` with a value

return-value : (s : Scope) (e : Tree) → IsSound s → (result : IsKnownResult s s.result) → is_void result.type ≡ false → IsInType s result.type e → IsMade s [] (return_code s e) true
return-value s e sound result not_void made =
    one-made s (return_stmt (Some made.to)) (return_code s e)
    (ap (λ o. option_and_then (λ ty. option_map (λ v. one_stmt (return_stmt (Some v))) (value_in s ty e)) o) result.is ∙ ap (λ o. option_map (λ v. one_stmt (return_stmt (Some v))) o) made.is)
    (λ env fits. (
      made.made env fits (declared-result env.structs result.type (declared-there env s result.type sound (names-fit env s fits) (known-result (known_words s.structs) result.type result.known not_void))),
      made.type ∙ same-result s result.type env result.is fits,
      ap not (ap is_void (sym (same-result s result.type env result.is fits)) ∙ not_void),
    ))

pub return-made : ExpressionsBecome → (s : Scope) → IsInBody s → (at : ℕ) (e : Tree) → IsExpression s.tokens e →
    IsFree (value_sites s e ++ (site s (a_return at (present e)) ∷ site s (a_conversion (type_in s e) s.result (at_of e)) ∷ [])) → IsMade s [] (return_code s e) true
return-made claim s body at e shape free =
    let behind = free-right (value_sites s e) (site s (a_return at (present e)) ∷ site s (a_conversion (type_in s e) s.result (at_of e)) ∷ []) free in
    let not_void = result-there s body.result (not_broken (is_void_result s.result) at (free-first (site s (a_return at (present e))) (site s (a_conversion (type_in s e) s.result (at_of e)) ∷ []) behind).obeys_20) in
    return-value s e body.sound body.result not_void
    (conversion-in s e s.result body.result.type []
    (use-done claim s e body.sound shape (free-left (value_sites s e) (site s (a_return at (present e)) ∷ site s (a_conversion (type_in s e) s.result (at_of e)) ∷ []) free))
    body.result.is not_void
    (free-rest (site s (a_return at (present e))) (site s (a_conversion (type_in s e) s.result (at_of e)) ∷ []) behind))

-- ---- jumps without a value

in_loop-there : (s : Scope) (at : ℕ) → IsFree (site s (a_loop_jump at) ∷ []) → IsTrue s.in_loop
in_loop-there s at free = not-false s.in_loop (not_broken (not s.in_loop) at (free-first (site s (a_loop_jump at)) [] free).obeys_19)

void-result : (s : Scope) (at : ℕ) → IsFree (site s (a_return at absent) ∷ []) → (result : IsKnownResult s s.result) → result.type ≡ void_type
void-result s at free result =
    void-there result.type
    (sym (ap is_void_result result.is) ∙ not-false (is_void_result s.result) (not_broken (not (is_void_result s.result)) at (free-first (site s (a_return at absent)) [] free).obeys_20))

pub jump-made : (s : Scope) → IsInBody s → (terminal : Terminal) (at : ℕ) → IsTrue (is_jump terminal) → IsFree (jump_sites s terminal at) → IsMade s [] (Some (one_stmt (jump_code terminal))) (is_return_word terminal)
jump-made s body terminals.Break at shape free = one-made s break_stmt (Some (one_stmt break_stmt)) refl (λ env fits. in_loop-there s at free)
jump-made s body terminals.Continue at shape free = one-made s continue_stmt (Some (one_stmt continue_stmt)) refl (λ env fits. in_loop-there s at free)
jump-made s body terminals.Return at shape free =
    one-made s (return_stmt None) (Some (one_stmt (return_stmt None))) refl
    (λ env fits. sym (same-result s body.result.type env body.result.is fits) ∙ void-result s at free body.result)
jump-made s body other at shape free = absurd (cc shape)
