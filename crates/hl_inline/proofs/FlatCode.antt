-- Statements of a program without calls that are well formed, whatever stands around them.
use Rattle.std.proofs.Common.{◌≡◌, ◌∙◌, refl, ap, ℕ, ◌<◌, ◌≤◌, Bool, true, false, List, [], ◌∷◌, ◌++◌, arith}
use Rattle.std.specs.Prelude.{◌==◌, ◌||◌, not, IsTrue}
use Rattle.std.proofs.lemmas.Bool.{eq-eqb, eqb-true}
use Rattle.hl_meaning.specs.Places.{Scope}
use Rattle.hl_meaning.specs.Programs.{StructDef, Variable}
use Rattle.hl_meaning.specs.WellFormed.{IsDeclared}
use Rattle.hl_inline.specs.FlatTrees.{FlatStmt, flat_block}
use Rattle.hl_inline.specs.FlatViews.{flat_stmts_of}
use Rattle.hl_inline.specs.FlatWellFormed.{AreFlatStmts, IsFlatStmt, inputs_in, inputs_of}
use Rattle.hl_meaning.specs.Operators.{is_among}
use Rattle.hl_inline.specs.EmittedCode.{as_one}
use Rattle.hl_inline.specs.Fresh.{Fresh, with_variables}
use Rattle.typed_laws.proofs.Induction.{Every, every_append}
use Rattle.hl_inline.proofs.Fronts.{IsFront, front_more, front_refl, front_trans}

abbrev pub AreDeclared : List StructDef → List Variable → Type 0
AreDeclared structs variables = Every (λ v. IsDeclared structs v.ty) variables

-- names

abbrev pub AreBelow : ℕ → List ℕ → Type 0
AreBelow bound names = Every (λ name. name < bound) names

pub below_more : (bound more : ℕ) (names : List ℕ) → bound ≤ more → AreBelow bound names → AreBelow more names
below_more bound more [] low h = tt
below_more bound more (name ∷ names) low h = (omega (arith, low, h.0), below_more bound more names low h.1)

-- one of them, and the others
pub named_here : (name : ℕ) (names : List ℕ) → IsTrue (is_among (name ∷ names) name)
named_here name names = ap (λ b. b || is_among names name) (eq-eqb name name refl)

pub named_later : (other name : ℕ) (names : List ℕ) → IsTrue (is_among names name) → IsTrue (is_among (other ∷ names) name)
named_later other name names h = by_test (name == other)
  where
    by_test : (b : Bool) → IsTrue (b || is_among names name)
    by_test true = refl
    by_test false = h

-- a name that isn't the first one
pub other_name : (other name : ℕ) (names : List ℕ) → (name ≡ other → ⊥) → IsTrue (not (is_among names name)) → IsTrue (not (is_among (other ∷ names) name))
other_name other name names apart h = by_test (name == other) refl
  where
    by_test : (b : Bool) → (name == other) ≡ b → IsTrue (not (b || is_among names name))
    by_test true e = absurd (apart (eqb-true name other e))
    by_test false e = h

-- a greater name than all is another
pub free_name : (bound name : ℕ) (names : List ℕ) → bound ≤ name → AreBelow bound names → IsTrue (not (is_among names name))
free_name bound name [] low h = refl
free_name bound name (other ∷ names) low h = other_name other name names (λ e. omega (arith, e, low, h.0)) (free_name bound name names low h.1)

-- statements

-- a statement that is well formed inside the `Named` of some names, and sets no semantic
abbrev pub IsFitting : Scope → List ℕ → FlatStmt → Type 0
IsFitting S names stmt = IsFlatStmt S names stmt × (inputs_of stmt ≡ [])

abbrev pub AreFitting : Scope → List ℕ → List FlatStmt → Type 0
AreFitting S names code = Every (IsFitting S names) code

pub are_flat : (S : Scope) (names : List ℕ) (code : List FlatStmt) → AreFitting S names code → AreFlatStmts S names (flat_stmts_of code)
are_flat S names [] h = tt
are_flat S names (stmt ∷ code) h = (h.0.0, are_flat S names code h.1)

pub none_set : (S : Scope) (names : List ℕ) (code : List FlatStmt) → AreFitting S names code → inputs_in (flat_stmts_of code) ≡ []
none_set S names [] h = refl
none_set S names (stmt ∷ code) h = ap (λ l. l ++ inputs_in (flat_stmts_of code)) h.0.1 ∙ none_set S names code h.1

pub block_fits : (S : Scope) (names : List ℕ) (code : List FlatStmt) → AreFitting S names code → IsFitting S names (flat_block (flat_stmts_of code))
block_fits S names code h = (are_flat S names code h, none_set S names code h)

pub one_fits : (S : Scope) (names : List ℕ) (code : List FlatStmt) → AreFitting S names code → IsFitting S names (as_one code)
one_fits S names [] h = (tt, refl)
one_fits S names (stmt ∷ []) h = h.0
one_fits S names (stmt ∷ other ∷ code) h = block_fits S names (stmt ∷ other ∷ code) h

-- code

-- variables and names are only added
pub record Extends (structs : List StructDef) (fresh after : Fresh) : Type 0 where
  pub grows : IsFront fresh.variables after.variables
  pub names : fresh.names ≤ after.names
  pub declared : AreDeclared structs fresh.variables → AreDeclared structs after.variables

pub extends_refl : (structs : List StructDef) (fresh : Fresh) → Extends structs fresh fresh
extends_refl structs fresh = record { grows = front_refl fresh.variables; names = omega arith; declared = λ d. d }

pub extends_trans : (structs : List StructDef) (a b d : Fresh) → Extends structs a b → Extends structs b d → Extends structs a d
extends_trans structs a b d e f = record {
  grows = front_trans a.variables b.variables d.variables e.grows f.grows;
  names = omega (arith, e.names, f.names);
  declared = λ all. f.declared (e.declared all);
}

pub extends_with : (structs : List StructDef) (variables : List Variable) (fresh : Fresh) → AreDeclared structs variables → Extends structs fresh (with_variables variables fresh)
extends_with structs variables fresh d = record {
  grows = front_more fresh.variables variables;
  names = omega arith;
  declared = λ all. every_append (λ v. IsDeclared structs v.ty) fresh.variables variables all d;
}

module _ (S : Scope) (R : Type 0) where
  -- Statements that stand where some names and variables are used. Where R holds and the variables in the end are a front
  -- of all, they are well formed inside names for which T holds.
  pub record IsCode (T : List ℕ → Type 0) (fresh after : Fresh) (code : List FlatStmt) : Type 0 where
    pub extends : Extends S.structs fresh after
    pub fits : R → IsFront after.variables S.variables → (names : List ℕ) → AreBelow fresh.names names → T names → AreFitting S names code

  pub no_code : (T : List ℕ → Type 0) (fresh : Fresh) → IsCode T fresh fresh []
  no_code T fresh = record { extends = extends_refl S.structs fresh; fits = λ r front names below t. tt }

  pub code_append : (T : List ℕ → Type 0) (a b d : Fresh) (xs ys : List FlatStmt) → IsCode T a b xs → IsCode T b d ys → IsCode T a d (xs ++ ys)
  code_append T a b d xs ys x y = record {
    extends = extends_trans S.structs a b d x.extends y.extends;
    fits = λ r front names below t.
        every_append (IsFitting S names) xs ys (x.fits r (front_trans b.variables d.variables S.variables y.extends.grows front) names below t)
        (y.fits r front names (below_more a.names b.names names x.extends.names below) t);
  }

  -- one statement
  pub one_code : (T : List ℕ → Type 0) (a b : Fresh) (stmt : FlatStmt) → Extends S.structs a b →
      (R → IsFront b.variables S.variables → (names : List ℕ) → AreBelow a.names names → T names → IsFitting S names stmt) → IsCode T a b (stmt ∷ [])
  one_code T a b stmt extends fits = record { extends = extends; fits = λ r front names below t. (fits r front names below t, tt) }

-- where more is known
pub code_where : (S : Scope) (R R' : Type 0) (T T' : List ℕ → Type 0) (a b : Fresh) (code : List FlatStmt) → (R' → R) → ((names : List ℕ) → T' names → T names) → IsCode S R T a b code → IsCode S R' T' a b code
code_where S R R' T T' a b code h k x = record { extends = x.extends; fits = λ r front names below t. x.fits (h r) front names below (k names t) }
