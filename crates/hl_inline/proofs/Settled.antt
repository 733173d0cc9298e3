-- Values that stay as they are while further statements run.
use Rattle.std.proofs.Common.{◌≡◌, ◌∙◌, refl, ap, sym, ℕ, Bool, false, true, List, [], ◌∷◌, ◌++◌, Some}
use Rattle.std.specs.Prelude.{not}
use Rattle.hl_meaning.specs.declared.expression.Expr as held
use Rattle.hl_meaning.specs.Trees.{Expr, type_of}
use Rattle.hl_meaning.specs.Views.{plain_expr, plain_ty}
use Rattle.hl_meaning.proofs.Plain.{plain_expr-is}
use Rattle.hl_inline.specs.Building.{Made, made, operand_behind, valued}
use Rattle.hl_inline.specs.FlatTrees.{FlatStmt, flat_local}
use Rattle.hl_inline.specs.Emitting.{reading, saved, settled, token_of}
use Rattle.hl_inline.specs.Fresh.{Fresh, next_of, unnamed, with_variables}

pub not-true : (b : Bool) → not b ≡ true → b ≡ false
not-true true e = absurd (cc)
not-true false e = refl

pub not-false : (b : Bool) → not b ≡ false → b ≡ true
not-false true e = refl
not-false false e = absurd (cc)

pub saved-as : (code grown : List FlatStmt) (value : held.Expr) (read : Expr) (fresh now : Fresh) (number : ℕ) → number ≡ next_of fresh → read ≡ reading (plain_ty value.ty) value.at number
    → now ≡ with_variables (unnamed (plain_ty value.ty) value.at ∷ []) fresh → grown ≡ code ++ flat_local number (Some (plain_expr value)) ∷ []
    → operand_behind [] (saved (valued code (plain_expr value) false fresh)) ≡ made grown read now
saved-as code grown value read fresh now number is read-is now-is grown-is =
    ap (λ t. made stmts (reading t (token_of (plain_expr value)) (next_of fresh)) (with_variables (unnamed t (token_of (plain_expr value)) ∷ []) fresh)) (ap type_of (plain_expr-is value)) ∙
    (ap (λ a. made stmts (reading (plain_ty value.ty) a (next_of fresh)) (with_variables (unnamed (plain_ty value.ty) a ∷ []) fresh)) (ap token_of (plain_expr-is value)) ∙
    (ap (λ n. made (code ++ flat_local n (Some (plain_expr value)) ∷ []) (reading (plain_ty value.ty) value.at n) (with_variables (unnamed (plain_ty value.ty) value.at ∷ []) fresh)) (sym is) ∙
    (ap (λ c. made c (reading (plain_ty value.ty) value.at number) (with_variables (unnamed (plain_ty value.ty) value.at ∷ []) fresh)) (sym grown-is) ∙
    (ap (λ r. made grown r (with_variables (unnamed (plain_ty value.ty) value.at ∷ []) fresh)) (sym read-is) ∙ ap (made grown read) (sym now-is)))))
  where
    stmts : List FlatStmt
    stmts = code ++ flat_local (next_of fresh) (Some (plain_expr value)) ∷ []

-- a value that is saved, and one that stays
pub settled-saved : (further fixed : Bool) (code : List FlatStmt) (value : Expr) (fresh : Fresh) (m : Made Expr) → further ≡ true → fixed ≡ false
    → operand_behind [] (saved (valued code value false fresh)) ≡ m → operand_behind [] (settled further (valued code value fixed fresh)) ≡ m
settled-saved further fixed code value fresh m a b e =
    ap (λ f. operand_behind [] (settled f (valued code value fixed fresh))) a ∙ (ap (λ f. operand_behind [] (settled true (valued code value f fresh))) b ∙ e)

pub settled-fixed : (further fixed : Bool) (code : List FlatStmt) (value : Expr) (fresh : Fresh) → fixed ≡ true
    → operand_behind [] (settled further (valued code value fixed fresh)) ≡ made code value fresh
settled-fixed true true code value fresh e = refl
settled-fixed true false code value fresh e = absurd (cc)
settled-fixed false fixed code value fresh e = refl

pub settled-last : (further fixed : Bool) (code : List FlatStmt) (value : Expr) (fresh : Fresh) → further ≡ false
    → operand_behind [] (settled further (valued code value fixed fresh)) ≡ made code value fresh
settled-last true fixed code value fresh e = absurd (cc)
settled-last false fixed code value fresh e = refl
