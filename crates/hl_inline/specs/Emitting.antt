-- Expressions that have become statements and a value behind them. The values of operands are saved where a call stands
-- in a later one, so that they are what they were. These definitions are this project's own: no public standard speaks
-- of them.
use Rattle.std.specs.Prelude.{ℕ, ◌&&◌, ◌||◌, not, Bool, true, false, if◌then◌else◌, List, [], ◌∷◌, ◌++◌, Some}
use Rattle.hl_meaning.specs.Types.{Ty}
use Rattle.hl_meaning.specs.Trees.{Expr, Location, a_location, an_expr, no_parts, read_form, type_of, variable_root}
use Rattle.hl_inline.specs.FlatTrees.{FlatStmt, flat_local}
use Rattle.hl_inline.specs.Fresh.{Fresh, next_of, unnamed, with_variables}

-- Statements and then an expression. Where it is fixed, statements behind these may come before it without changing its
-- value.
pub record Valued : Type 0 where
  pub code : List FlatStmt
  pub value : Expr
  pub fixed : Bool
  pub fresh : Fresh

-- the same with expressions in order
pub record Values : Type 0 where
  pub code : List FlatStmt
  pub values : List Expr
  pub fresh : Fresh

-- what becomes of an expression, and whether a call stands in it
pub record Emitter : Type 0 where
  pub has_call : Bool
  pub emit : Fresh → Valued

-- the variable of a number, whole
abbrev pub place_of_variable : Ty → (number : ℕ) → Location
place_of_variable ty number = a_location ty (variable_root number) no_parts

abbrev pub reading : Ty → (at : ℕ) → (number : ℕ) → Expr
reading ty at number = an_expr ty at (read_form (place_of_variable ty number))

abbrev pub token_of : Expr → ℕ
token_of (an_expr ty at form) = at

-- The value is put into a variable, so that it stays while further statements run.
abbrev pub saved : Valued → Valued
saved x = record {
  code = x.code ++ flat_local (next_of x.fresh) (Some x.value) ∷ [];
  value = reading (type_of x.value) (token_of x.value) (next_of x.fresh);
  fixed = true;
  fresh = with_variables (unnamed (type_of x.value) (token_of x.value) ∷ []) x.fresh;
}

-- a value that stays while further statements run
abbrev pub settled : (further : Bool) → Valued → Valued
settled further x = if further && not x.fixed then saved x else x

abbrev pub any_call : List Emitter → Bool
any_call [] = false
any_call (e ∷ es) = e.has_call || any_call es

abbrev pub values_with : Valued → Values → Values
values_with x rest = record { code = x.code ++ rest.code; values = x.value ∷ rest.values; fresh = rest.fresh }

-- Operands in order. The value of one stays while the calls in later ones run; `further` says whether calls stand behind
-- all of them.
abbrev pub emit_all : (further : Bool) → List Emitter → Fresh → Values
emit_all further [] fresh = record { code = []; values = []; fresh = fresh }
emit_all further (e ∷ es) fresh =
    let x = settled (further || any_call es) (e.emit fresh) in values_with x (emit_all further es x.fresh)
