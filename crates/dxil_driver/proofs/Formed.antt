-- The first form of a program, from what its parts are.
use Rattle.std.proofs.Common.{◌≡◌, ◌∙◌, refl, sym, ap, ℕ, Bool, true, false, ◌&&◌, List, [], ◌∷◌, map, Option, None, Some, option_map, cond}
use Rattle.std.specs.Prelude.{◌↔◌, IsTrue, option_and_then}
use Rattle.std.proofs.lemmas.Bool.{both_ways}
use Rattle.std.proofs.lemmas.Option.{none-some, same_Some}
use Rattle.hl_meaning.specs.Programs.{FunctionDef, Program}
use Rattle.hl_meaning.specs.Trees.{Stmts, more_stmts, no_stmts}
use Rattle.hl_meaning.specs.declared.statement.Stmt.{Stmt}
use Rattle.hl_meaning.specs.Views.{plain_stmts}
use Rattle.dxil_driver.specs.declared.stores.LiteralStore.{LiteralStore}
use Rattle.dxil_driver.specs.declared.stores.FirstForm.{FirstForm}
use Rattle.dxil_driver.specs.FirstForm.{HasBuffer, buffer_of, entry_of, form_between, form_of, form_with, is_alone, is_empty, stores_with}

-- ---- options

pub bind_some : {A B : Type 0} (o : Option A) (f : A → Option B) (y : B) → option_and_then f o ≡ Some y → (x : A) × (o ≡ Some x) × (f x ≡ Some y)
bind_some None f y e = absurd (none-some y e)
bind_some (Some x) f y e = (x, refl, e)

pub map_some : {A B : Type 0} (o : Option A) (f : A → B) (y : B) → option_map f o ≡ Some y → (x : A) × (o ≡ Some x) × (f x ≡ y)
map_some None f y e = absurd (none-some y e)
map_some (Some x) f y e = (x, refl, same_Some (f x) y e)

pub guard_some : {A : Type 0} (b : Bool) (o : Option A) (y : A) → cond b o None ≡ Some y → o ≡ Some y
guard_some false o y e = absurd (none-some y e)
guard_some true o y e = e

-- ---- stores

-- statements where no buffer is
pub without_buffer : (statements : List Stmt) → ¬ (statements ≡ []) → None ≡ stores_with None (plain_stmts statements)
without_buffer [] some = absurd (some refl)
without_buffer (first ∷ rest) some = refl

-- ---- lists without a part

pub none_there : {A B : Type 0} (f : A → B) (items : List A) (empty : Bool) → (IsTrue empty ↔ (items ≡ [])) → empty ≡ is_empty (map f items)
none_there f [] true h = refl
none_there f [] false h = absurd (both_ways false refl (h.1 refl))
none_there f (x ∷ items) true h = absurd (some_there (h.0 refl)) where
  some_there : x ∷ items ≡ [] → ⊥
  some_there e = cc
none_there f (x ∷ items) false h = refl

pub is_alone-by : (p : Program) (structs shared constants : Bool) → structs ≡ is_empty p.structs → shared ≡ is_empty p.shared → constants ≡ is_empty p.constants
    → (structs && (shared && constants)) ≡ is_alone p
is_alone-by p structs shared constants a b c = rw (a, b, c) refl

-- ---- programs

-- stores are there only with a buffer

no_stores : (body : Stmts) (stores : List LiteralStore) → stores_with None body ≡ Some stores → stores ≡ []
no_stores no_stmts stores e = sym (same_Some [] stores e)
no_stores (more_stmts first rest) stores e = absurd (none-some stores e)

stores_without : (buffer : Option (List ℕ)) (body : Stmts) (stores : List LiteralStore) → stores_with buffer body ≡ Some stores → buffer ≡ None → stores ≡ []
stores_without buffer body stores e none = no_stores body stores (ap (λ (b : Option (List ℕ)). stores_with b body) (sym none) ∙ e)

formed_with : (buffer : Option (List ℕ)) (f : FunctionDef) (threads : List ℕ) (form : FirstForm) → form_with buffer f threads ≡ Some form → HasBuffer form.buffer form.stores
formed_with buffer f threads form e none =
    let made = map_some (stores_with buffer f.body) (λ (stores : List LiteralStore). let found : FirstForm = record { entry = f.name; buffer = buffer; threads = threads; stores = stores } in found) form e in
    sym (ap (λ (m : FirstForm). m.stores) made.2) ∙ stores_without buffer f.body made.0 made.1 (ap (λ (m : FirstForm). m.buffer) made.2 ∙ none)

pub has_buffer : (p : Program) (form : FirstForm) → form_of p ≡ Some form → HasBuffer form.buffer form.stores
unfolding form_of
has_buffer p form e =
    let buffer = bind_some (buffer_of p.resources) (λ (b : Option (List ℕ)). option_and_then (λ f. form_with b f p.threads) (entry_of p.functions)) form (guard_some (is_alone p) (form_between p) form e) in
    let f = bind_some (entry_of p.functions) (λ f. form_with buffer.0 f p.threads) form buffer.2 in
    formed_with buffer.0 f.0 p.threads form f.2
