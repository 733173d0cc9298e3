-- Statements made of their parts.
use Rattle.std.proofs.Common.{◌≡◌, ◌≢◌, refl, ap, sym, List, [], ◌∷◌, ◌++◌, arith, length}
use Rattle.std.proofs.lemmas.List.{length-append}
use Rattle.hl_inline.specs.declared.flat.FlatStmt.{FlatStmt}
use Rattle.hl_inline.specs.declared.flat.FlatStmt.TheVariants.{Block}
use Rattle.hl_inline.specs.Building.{plain_code}
use Rattle.hl_inline.specs.FlatTrees.{no_flat_stmt, some_flat_stmt}
use Rattle.hl_inline.specs.FlatViews.{plain_flat_stmt}
use Rattle.hl_inline.specs.EmittedCode.{as_alternative, as_one}
use Rattle.hl_inline.proofs.FlatPlain.{plain_flat_stmt-Block}

pub one-block : (stmts : List FlatStmt) → length stmts ≢ 1 → plain_flat_stmt (Block stmts) ≡ as_one (plain_code stmts)
one-block [] other = plain_flat_stmt-Block []
one-block (x ∷ []) other = absurd (other refl)
one-block (x ∷ y ∷ stmts) other = plain_flat_stmt-Block (x ∷ y ∷ stmts)

pub one-last : (old new : List FlatStmt) (stmt : FlatStmt) → length old ≡ 1 → old ≡ new ++ stmt ∷ [] → plain_flat_stmt stmt ≡ as_one (plain_code old)
one-last old [] stmt single is = sym (ap (λ l. as_one (plain_code l)) is)
one-last old (x ∷ new) stmt single is = absurd (omega (arith, single, ap length is, length-append new (stmt ∷ [])))

pub alternative-none : (stmts : List FlatStmt) → stmts ≡ [] → no_flat_stmt ≡ as_alternative (plain_code stmts)
alternative-none stmts is = sym (ap (λ l. as_alternative (plain_code l)) is)

pub alternative-some : (stmts : List FlatStmt) → (stmts ≡ [] → ⊥) → some_flat_stmt (as_one (plain_code stmts)) ≡ as_alternative (plain_code stmts)
alternative-some [] other = absurd (other refl)
alternative-some (x ∷ stmts) other = refl
