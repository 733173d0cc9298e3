-- What walks of expressions say of their types and codes.
use Rattle.std.proofs.Common.{◌≡◌, ◌∙◌, refl, sym, ap, ℕ, Bool, not, List, [], ◌∷◌, ◌++◌, Option, None, Some, option_and_then, option_map, Result, Ok, Err, IfOk, OnOk}
use Rattle.hl_lexer.specs.declared.terminal.Terminal.{Terminal}
use Rattle.hl_lexer.specs.declared.terminal.Terminal.TheVariants as terminals
use Rattle.hl_parser.specs.Trees.{Tree, Maybe, absent, present, a_jump, at_of}
use Rattle.hl_meaning.specs.declared.ty.Kind.TheVariants.{Bool as BoolKind}
use Rattle.hl_meaning.specs.declared.ty.HlType.TheVariants as held
use Rattle.hl_meaning.specs.Types.{Ty, array_type, bool_type, is_scalar, scalar_type, struct_type, vector_type, void_type}
use Rattle.hl_meaning.specs.declared.expression.Expr.{Expr}
use Rattle.hl_meaning.specs.declared.statement.Stmt.{Stmt}
use Rattle.hl_meaning.specs.declared.statement.Stmt.TheVariants as stmts
use Rattle.hl_meaning.specs.Views.{plain_stmt, plain_stmts, plain_ty}
use Rattle.hl_meaning.proofs.Plain.{plain_stmt-Return, plain_ty-Scalar}
use Rattle.hl_meaning.specs.Trees as plain
use Rattle.hl_rules.specs.declared.found.Broken.{Broken}
use Rattle.hl_meaning.specs.Conversions.{converts}
use Rattle.hl_rules.specs.ExpressionRules.{is_no_conversion, is_void_result}
use Rattle.hl_rules.specs.Expressions.{value_code, value_in}
use Rattle.hl_rules.specs.Found.{breaking, broken_if, gathered}
use Rattle.hl_rules.specs.Nodes.{converted_code, value_of_code}
use Rattle.hl_rules.specs.Parts.{Site, a_condition, a_conversion, a_loop_jump, a_return, site}
use Rattle.hl_rules.specs.Rules.{noted}
use Rattle.hl_rules.specs.Scopes.{Scope}
use Rattle.hl_rules.specs.Source.{terminal_at}
use Rattle.hl_rules.specs.Sites.{condition_sites, jump_sites, statement_sites, value_sites}
use Rattle.hl_rules.specs.Statements.{condition_code, jump_code, one_stmt, return_code, statement_code}
use Rattle.hl_rules.specs.Values.{is_known, type_in, valued}
use Rattle.hl_rules.proofs.Noting.{noted-condition, noted-conversion, noted-return}
use Rattle.hl_types.specs.Walks.{made_expr}
use Rattle.hl_types.proofs.Walking.{noted-both, noted-three}
use Rattle.hl_values.specs.declared.scope.Scope.{Scope as HeldScope}
use Rattle.hl_values.specs.declared.typed.Typed.{Typed}
use Rattle.hl_values.specs.ScopeViews.{scope_of}
use Rattle.hl_values.specs.Noted.{noted_conversion}
use Rattle.hl_values.specs.TypedViews.{IsTyped}
use Rattle.hl_values.specs.Views.{plain_code_if, plain_type_if}

typed-type : (s : Scope) (e : Tree) (t : Typed) → IsTyped s e t → valued (plain_type_if t.ty) ≡ type_in s e
typed-type s e t typed = ap (λ v. valued v.ty) typed.value

valued-twice : (ty : Option Ty) → valued ty ≡ valued (valued ty)
valued-twice None = refl
valued-twice (Some void_type) = refl
valued-twice (Some (scalar_type kind)) = refl
valued-twice (Some (vector_type kind size)) = refl
valued-twice (Some (array_type element size)) = refl
valued-twice (Some (struct_type number)) = refl

-- what is no value isn't converted
valued-conversion : (from to : Option Ty) → is_no_conversion from to ≡ is_no_conversion (valued from) to
valued-conversion from to = ap (is_known (λ x. is_known (λ y. not (converts x y)) (valued to))) (valued-twice from)

-- a value of a type
pub typed-in : (s : Scope) (e : Tree) (t : Typed) (ty : Ty) (made : Option plain.Expr) → IsTyped s e t → made ≡ option_and_then (converted_code ty) (plain_code_if t.code) → made ≡ value_in s ty e
typed-in s e t ty made typed is = is ∙ ap (option_and_then (converted_code ty)) typed.code

pub map-then : {A B C : Type 0} (f : B → C) (g : A → Option B) (o : Option A) → option_map f (option_and_then g o) ≡ option_and_then (λ x. option_map f (g x)) o
map-then f g None = refl
map-then f g (Some x) = refl

-- a value of a type that may not be known
pub typed-to : (s : Scope) (e : Tree) (t : Typed) (ty : Option Ty) (made : Option plain.Expr) → IsTyped s e t
    → made ≡ option_and_then (λ own. option_and_then (converted_code own) (plain_code_if t.code)) ty → made ≡ option_and_then (λ own. value_in s own e) ty
typed-to s e t ty made typed is = is ∙ ap (λ c. option_and_then (λ own. option_and_then (converted_code own) c) ty) typed.code

pub return-made : (s : Scope) (e : Tree) (t : Typed) (gives : Option Ty) (value : Option plain.Expr) (made : Option plain.Stmts) → IsTyped s e t → gives ≡ s.result
    → value ≡ option_and_then (λ own. option_and_then (converted_code own) (plain_code_if t.code)) gives → made ≡ option_map (λ v. one_stmt (plain.return_stmt (Some v))) value → made ≡ return_code s e
return-made s e t gives value made typed same is e' =
    e' ∙ (ap (option_map (λ v. one_stmt (plain.return_stmt (Some v)))) (typed-to s e t s.result value typed (is ∙ ap (option_and_then (λ own. option_and_then (converted_code own) (plain_code_if t.code))) same)) ∙
    map-then (λ v. one_stmt (plain.return_stmt (Some v))) (λ own. value_in s own e) s.result)

-- a condition
pub condition-made : (s : Scope) (e : Tree) (t : Typed) (made : Option plain.Expr) → IsTyped s e t → made ≡ option_and_then (converted_code (plain_ty (held.Scalar BoolKind))) (plain_code_if t.code) → made ≡ condition_code s e
condition-made s e t made typed is = typed-in s e t bool_type made typed (is ∙ ap (λ ty. option_and_then (converted_code ty) (plain_code_if t.code)) (plain_ty-Scalar BoolKind))

condition-judged : (s : Scope) (e : Tree) (t : Typed) (before behind : Option Broken) (broken : Bool) (at : ℕ) → IsTyped s e t
    → broken ≡ is_known (λ own. not (is_scalar own)) (valued (plain_type_if t.ty)) → at ≡ at_of e → behind ≡ gathered before (breaking 22 (broken_if broken at))
    → behind ≡ noted before (site s (a_condition e) ∷ [])
condition-judged s e t before behind broken at typed is place e' =
    e' ∙ (ap (λ b. gathered before (breaking 22 (broken_if b at))) (is ∙ ap (is_known (λ own. not (is_scalar own))) (typed-type s e t typed)) ∙
    (ap (λ n. gathered before (breaking 22 (broken_if (is_known (λ own. not (is_scalar own)) (type_in s e)) n))) place ∙ sym (noted-condition before s e)))

pub condition-noted : (s : Scope) (e : Tree) (t : Typed) (before between behind : Option Broken) (broken : Bool) (at : ℕ) → IsTyped s e t
    → between ≡ noted before (value_sites s e) → broken ≡ is_known (λ own. not (is_scalar own)) (valued (plain_type_if t.ty)) → at ≡ at_of e
    → behind ≡ gathered between (breaking 22 (broken_if broken at)) → behind ≡ noted before (condition_sites s e)
condition-noted s e t before between behind broken at typed inner is place e' =
    noted-both before between behind (value_sites s e) (site s (a_condition e) ∷ []) inner (condition-judged s e t between behind broken at typed is place e')

-- a value as a statement
pub value-made : (s : Scope) (e : Tree) (t : Typed) (made : Option plain.Expr) → IsTyped s e t → made ≡ option_map value_of_code (plain_code_if t.code) → made ≡ value_code s e
value-made s e t made typed is = is ∙ ap (option_map value_of_code) typed.code

-- a value that is converted
pub conversion-noted : (s : Scope) (e : Tree) (t : Typed) (to : Option Ty) (before behind : Option Broken) (at : ℕ) → IsTyped s e t
    → at ≡ at_of e → behind ≡ noted_conversion before (plain_type_if t.ty) to at → behind ≡ noted before (site s (a_conversion (type_in s e) to (at_of e)) ∷ [])
conversion-noted s e t to before behind at typed place e' =
    e' ∙ (ap (λ b. gathered before (breaking 24 (broken_if b at))) (valued-conversion (plain_type_if t.ty) to ∙ ap (λ ty. is_no_conversion ty to) (typed-type s e t typed)) ∙
    (ap (noted_conversion before (type_in s e) to) place ∙ sym (noted-conversion before s (type_in s e) to (at_of e))))

-- an initialiser without braces
pub value-noted : (s : Scope) (e : Tree) (t : Typed) (ty : Option Ty) (f0 f1 f2 : Option Broken) (at : ℕ) → IsTyped s e t
    → f1 ≡ noted f0 (value_sites s e) → at ≡ at_of e → f2 ≡ noted_conversion f1 (plain_type_if t.ty) ty at
    → f2 ≡ noted f0 (value_sites s e ++ site s (a_conversion (type_in s e) ty (at_of e)) ∷ [])
value-noted s e t ty f0 f1 f2 at typed inner place e' =
    noted-both f0 f1 f2 (value_sites s e) (site s (a_conversion (type_in s e) ty (at_of e)) ∷ []) inner (conversion-noted s e t ty f1 f2 at typed place e')

return-judged : (s : Scope) (at : ℕ) (e : Tree) (gives : Option Ty) (before behind : Option Broken) (void : Bool) → gives ≡ s.result → void ≡ is_void_result gives
    → behind ≡ gathered before (breaking 20 (broken_if void at)) → behind ≡ noted before (site s (a_return at (present e)) ∷ [])
return-judged s at e gives before behind void same is e' =
    e' ∙ (ap (λ b. gathered before (breaking 20 (broken_if b at))) (is ∙ ap is_void_result same) ∙ sym (noted-return before s at (present e)))

pub return-noted : (s : Scope) (at : ℕ) (e : Tree) (t : Typed) (gives : Option Ty) (f0 f1 f2 f3 : Option Broken) (void : Bool) (place : ℕ) → IsTyped s e t → gives ≡ s.result
    → f1 ≡ noted f0 (value_sites s e) → void ≡ is_void_result gives → f2 ≡ gathered f1 (breaking 20 (broken_if void at))
    → place ≡ at_of e → f3 ≡ noted_conversion f2 (plain_type_if t.ty) gives place → f3 ≡ noted f0 (statement_sites s (a_jump at (present e)))
return-noted s at e t gives f0 f1 f2 f3 void place typed same inner is_void' second is_place third =
    noted-three f0 f1 f2 f3 (value_sites s e) (site s (a_return at (present e)) ∷ []) (site s (a_conversion (type_in s e) s.result (at_of e)) ∷ []) inner
    (return-judged s at e gives f1 f2 void same is_void' second)
    (conversion-noted s e t s.result f2 f3 place typed is_place (third ∙ ap (λ ty. noted_conversion f2 (plain_type_if t.ty) ty place) same))

-- what holds whatever is answered
pub whenever : {T E P : Type 0} (r : Result T E) → P → OnOk r P
whenever (Ok x) p = p
whenever (Err e) p = tt

-- what is answered of one thing, of another that is the same
pub made-ok : {T E A : Type 0} (r : Result T E) (view : T → A) (x y : A) → IfOk r (λ made. view made ≡ x) → x ≡ y → IfOk r (λ made. view made ≡ y)
made-ok (Ok made) view x y is e = is ∙ e
made-ok (Err no_memory) view x y is e = tt

pub same-ok : {T E A : Type 0} (r : Result T E) (new x y : A) → OnOk r (new ≡ x) → x ≡ y → OnOk r (new ≡ y)
same-ok (Ok made) new x y is e = is ∙ e
same-ok (Err no_memory) new x y is e = tt

-- what is noted behind what was noted before, where that is answered
pub noted-ok : {T E : Type 0} (r : Result T E) (f0 f1 f2 : Option Broken) (a b : List Site) → f1 ≡ noted f0 a → OnOk r (f2 ≡ noted f1 b) → OnOk r (f2 ≡ noted f0 (a ++ b))
noted-ok (Ok made) f0 f1 f2 a b first second = noted-both f0 f1 f2 a b first second
noted-ok (Err no_memory) f0 f1 f2 a b first second = tt

-- what is held of a scope
pub result-is : (s : HeldScope) → plain_type_if s.result ≡ (scope_of s).result
unfolding scope_of
result-is s = refl

pub loop-around : (s : HeldScope) → s.in_loop ≡ (scope_of s).in_loop
unfolding scope_of
loop-around s = refl

-- jumps
pub jump_sites-other : (s : Scope) (t : Terminal) (at : ℕ) → (t ≡ terminals.Return → ⊥) → jump_sites s t at ≡ site s (a_loop_jump at) ∷ []
jump_sites-other s terminals.Return at n0 = absurd (n0 refl)
jump_sites-other s t at n0 = refl

pub jump-code : (s : Scope) (at : ℕ) (value : Maybe) (e : Tree) → value ≡ present e → return_code s e ≡ statement_code s (a_jump at value)
jump-code s at value e is = sym (ap (λ m. statement_code s (a_jump at m)) is)

pub jump-found : (f : Option Broken) (s : Scope) (at : ℕ) (value : Maybe) (e : Tree) → value ≡ present e → noted f (statement_sites s (a_jump at (present e))) ≡ noted f (statement_sites s (a_jump at value))
jump-found f s at value e is = sym (ap (λ m. noted f (statement_sites s (a_jump at m))) is)

pub plain_jump-code : (s : Scope) (at : ℕ) (value : Maybe) → value ≡ absent → Some (one_stmt (jump_code (terminal_at s.tokens at))) ≡ statement_code s (a_jump at value)
plain_jump-code s at value is = sym (ap (λ m. statement_code s (a_jump at m)) is)

pub plain_jump-found : (f : Option Broken) (s : Scope) (at : ℕ) (value : Maybe) → value ≡ absent → noted f (jump_sites s (terminal_at s.tokens at) at) ≡ noted f (statement_sites s (a_jump at value))
plain_jump-found f s at value is = sym (ap (λ m. noted f (statement_sites s (a_jump at m))) is)

pub jump_code-other : (t : Terminal) → (t ≡ terminals.Break → ⊥) → (t ≡ terminals.Continue → ⊥) → jump_code t ≡ plain.return_stmt None
jump_code-other terminals.Break n0 n1 = absurd (n0 refl)
jump_code-other terminals.Continue n0 n1 = absurd (n1 refl)
jump_code-other t n0 n1 = refl

pub return_stmt-made : (value : Option Expr) (v : Expr) (made : List Stmt) → value ≡ Some v → plain_stmts made ≡ one_stmt (plain_stmt (stmts.Return (Some v)))
    → Some (plain_stmts made) ≡ option_map (λ x. one_stmt (plain.return_stmt (Some x))) (made_expr value)
return_stmt-made value v made e m = rw e (ap Some (m ∙ ap one_stmt (plain_stmt-Return (Some v))))
