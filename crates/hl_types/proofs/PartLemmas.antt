-- The parts of a program, where they are there.
use Rattle.std.proofs.Common.{◌≡◌, ◌∙◌, refl, sym, ap, ℕ, List, Option, None, Some}
use Rattle.hl_meaning.specs.Programs.{Constant, FunctionDef, Program, Resource, StructDef, Variable}
use Rattle.hl_rules.specs.Elaboration.{entry_number}
use Rattle.hl_rules.specs.Expressions.{with_three}
use Rattle.hl_rules.specs.Scopes.{Scope}
use Rattle.hl_rules.specs.Statements.{struct_defs}
use Rattle.hl_types.specs.Items.{Made, made_program}

none-first : {A B C D : Type 0} (f : A → B → C → Option D) (a : Option A) (b : Option B) (c : Option C) → a ≡ None → None ≡ with_three f a b c
none-first f a b c e = sym (ap (λ x. with_three f x b c) e)

none-second : {A B C D : Type 0} (f : A → B → C → Option D) (a : Option A) (b : Option B) (c : Option C) → b ≡ None → None ≡ with_three f a b c
none-second f None b c e = refl
none-second f (Some x) b c e = sym (ap (λ y. with_three f (Some x) y c) e)

none-third : {A B C D : Type 0} (f : A → B → C → Option D) (a : Option A) (b : Option B) (c : Option C) → c ≡ None → None ≡ with_three f a b c
none-third f None b c e = refl
none-third f (Some x) None c e = refl
none-third f (Some x) (Some y) c e = sym (ap (λ z. with_three f (Some x) (Some y) z) e)

all-there : {A B C D : Type 0} (f : A → B → C → Option D) (a : Option A) (b : Option B) (c : Option C) (x : A) (y : B) (z : C) → a ≡ Some x → b ≡ Some y → c ≡ Some z → f x y z ≡ with_three f a b c
all-there f a b c x y z e g h = sym (ap (λ o. with_three f o b c) e ∙ (ap (λ o. with_three f (Some x) o c) g ∙ ap (λ o. with_three f (Some x) (Some y) o) h))

-- the program of parts with these functions, this entry and these threads
abbrev of_parts : Scope → Made → List FunctionDef → ℕ → List ℕ → Option Program
of_parts s made functions entry threads = Some (record {
  structs = struct_defs s.structs;
  resources = made.resources;
  shared = made.shared;
  constants = made.constants;
  functions = functions;
  entry = entry;
  threads = threads;
})

pub no-functions : (s : Scope) (made : Made) → made.functions ≡ None → None ≡ made_program s made
no-functions s made e = none-first (of_parts s made) made.functions (entry_number s) made.threads e

pub no-entry : (s : Scope) (made : Made) → entry_number s ≡ None → None ≡ made_program s made
no-entry s made e = none-second (of_parts s made) made.functions (entry_number s) made.threads e

pub no-threads : (s : Scope) (made : Made) → made.threads ≡ None → None ≡ made_program s made
no-threads s made e = none-third (of_parts s made) made.functions (entry_number s) made.threads e

abbrev a_program : List StructDef → List Resource → List Variable → List Constant → List FunctionDef → ℕ → List ℕ → Program
a_program structs resources shared constants functions entry threads = record {
  structs = structs;
  resources = resources;
  shared = shared;
  constants = constants;
  functions = functions;
  entry = entry;
  threads = threads;
}

pub parts-made : (s : Scope) (made : Made) (structs : List StructDef) (resources : List Resource) (shared : List Variable) (constants : List Constant) (functions : List FunctionDef) (entry number : ℕ) (threads : List ℕ)
    → structs ≡ struct_defs s.structs → resources ≡ made.resources → shared ≡ made.shared → constants ≡ made.constants
    → made.functions ≡ Some functions → entry_number s ≡ Some number → entry ≡ number → made.threads ≡ Some threads
    → Some (a_program structs resources shared constants functions entry threads) ≡ made_program s made
parts-made s made structs resources shared constants functions entry number threads d r v c f n e t =
    ap (λ x. Some (a_program x resources shared constants functions entry threads)) d ∙
    (ap (λ x. Some (a_program (struct_defs s.structs) x shared constants functions entry threads)) r ∙
    (ap (λ x. Some (a_program (struct_defs s.structs) made.resources x constants functions entry threads)) v ∙
    (ap (λ x. Some (a_program (struct_defs s.structs) made.resources made.shared x functions entry threads)) c ∙
    (ap (λ x. Some (a_program (struct_defs s.structs) made.resources made.shared made.constants functions x threads)) e ∙
    all-there (of_parts s made) made.functions (entry_number s) made.threads functions number threads f n t))))
