-- Statements that are made of others that are well formed.
use Rattle.std.proofs.Common.{◌≡◌, ◌∙◌, refl, sym, ap, subst, ℕ, Bool, true, false, ◌&&◌, ◌||◌, List, [], ◌++◌, length, Option, Some}
use Rattle.std.specs.Prelude.{option_map}
use Rattle.std.proofs.lemmas.List.Elements.{All-append, All-nil}
use Rattle.hl_meaning.specs.Trees.{Expr, MaybeStmt, Stmt, Stmts, block_stmt, do_stmt, for_stmt, if_stmt, more_stmts, no_stmt, no_stmts, some_stmt, while_stmt}
use Rattle.hl_meaning.specs.Places as places
use Rattle.hl_meaning.specs.Programs.{Variable}
use Rattle.hl_meaning.specs.WellFormed.{AreStmts, IsCondition, IsConditionIf, IsExprIf, IsStmt, IsStmtIf, always_returns, one_returns, returns_if}
use Rattle.hl_rules.specs.Expressions.{with_two, with_three}
use Rattle.hl_rules.specs.Scopes.{Scope, behind, looped, opened}
use Rattle.hl_rules.specs.Statements.{append_stmts, appended, for_code, one_stmt, single}
use Rattle.hl_rules.proofs.Becoming.{with_two-there}
use Rattle.hl_rules.proofs.Fitting.{Fits}
use Rattle.hl_rules.proofs.LocalForms.{AreKnownVariables, IsDeclaring, declaring-fits, holds-behind}
use Rattle.hl_rules.proofs.ScopeForms.{HoldsPart, holds-left, holds-right}
use Rattle.hl_rules.proofs.StructForms.{IsKnownType, known_words}

-- ---- lists of statements

or-none : (a : Bool) → a || false ≡ a
or-none true = refl
or-none false = refl

or-assoc : (a b c : Bool) → a || (b || c) ≡ (a || b) || c
or-assoc true b c = refl
or-assoc false b c = refl

append-are : (env : places.Scope) (in_loop : Bool) (a b : Stmts) → AreStmts env in_loop a → AreStmts env in_loop b → AreStmts env in_loop (append_stmts a b)
append-are env in_loop no_stmts b h k = k
append-are env in_loop (more_stmts first rest) b h k = (h.0, append-are env in_loop rest b h.1 k)

append-returns : (a b : Stmts) → one_returns (append_stmts a b) ≡ one_returns a || one_returns b
append-returns no_stmts b = refl
append-returns (more_stmts first rest) b = ap (λ r. always_returns first || r) (append-returns rest b) ∙ or-assoc (always_returns first) (one_returns rest) (one_returns b)

pub single-is : (env : places.Scope) (in_loop : Bool) (statements : Stmts) → AreStmts env in_loop statements → IsStmt env in_loop (single statements)
single-is env in_loop no_stmts h = tt
single-is env in_loop (more_stmts first no_stmts) h = h.0
single-is env in_loop (more_stmts first (more_stmts second rest)) h = h

pub single-returns : (statements : Stmts) → always_returns (single statements) ≡ one_returns statements
single-returns no_stmts = refl
single-returns (more_stmts first no_stmts) = sym (or-none (always_returns first))
single-returns (more_stmts first (more_stmts second rest)) = refl

-- ---- what is made

-- Statements that something becomes: they declare these variables, of known types, always return or not, and are well formed
-- wherever the scope and the variables stand.
pub record IsMade (s : Scope) (variables : List Variable) (code : Option Stmts) (returns : Bool) : Type 0 where
  pub to : Stmts
  pub is : code ≡ Some to
  pub always : one_returns to ≡ returns
  pub types : AreKnownVariables (known_words s.structs) variables
  pub are : (env : places.Scope) → Fits env s → HoldsPart env.variables s.variables variables → AreStmts env s.in_loop to

-- and where there may be none
pub record IsMadeIf (s : Scope) (variables : List Variable) (code : Option MaybeStmt) (returns : Bool) : Type 0 where
  pub to : MaybeStmt
  pub is : code ≡ Some to
  pub always : returns_if to ≡ returns
  pub types : AreKnownVariables (known_words s.structs) variables
  pub are : (env : places.Scope) → Fits env s → HoldsPart env.variables s.variables variables → IsStmtIf env s.in_loop to

no-variables : (words : List ℕ) → AreKnownVariables words []
no-variables words = All-nil (λ (v : Variable). IsKnownType words v.ty)

-- one statement that declares nothing
pub one-made : (s : Scope) (statement : Stmt) (code : Option Stmts) → code ≡ Some (one_stmt statement) → ((env : places.Scope) → Fits env s → IsStmt env s.in_loop statement) → IsMade s [] code (always_returns statement)
one-made s statement code e h = record {
  to = one_stmt statement;
  is = e;
  always = or-none (always_returns statement);
  types = no-variables (known_words s.structs);
  are = λ env fits holds. (h env fits, tt);
}

pub none-made : (s : Scope) → IsMade s [] (Some no_stmts) false
none-made s = record { to = no_stmts; is = refl; always = refl; types = no-variables (known_words s.structs); are = λ env fits holds. tt }

-- statements behind others
pub made-joined : (s t : Scope) (a b : List Variable) (first rest : Option Stmts) (r q : Bool) → IsMade s a first r → IsDeclaring s t a → IsMade t b rest q → IsMade s (a ++ b) (appended first rest) (r || q)
made-joined s t a b first rest r q made declares more = record {
  to = append_stmts made.to more.to;
  is = with_two-there (λ x y. Some (append_stmts x y)) first rest made.to more.to made.is more.is;
  always = append-returns made.to more.to ∙ (ap (λ x. x || one_returns more.to) made.always ∙ ap (λ x. r || x) more.always);
  types =
      All-append (λ (v : Variable). IsKnownType (known_words s.structs) v.ty) a b made.types
      (subst (λ l. AreKnownVariables (known_words l) b) declares.same.structs more.types);
  are = λ env fits holds.
      append-are env s.in_loop made.to more.to (made.are env fits (holds-left env.variables s.variables a b holds))
      (subst (λ in_loop. AreStmts env in_loop more.to) declares.same.in_loop
      (more.are env (declaring-fits s t a declares env fits (holds-left env.variables s.variables a b holds)) (holds-behind s t env.variables a b declares.same holds)));
}

-- ---- scopes

pub fits-opened : (env : places.Scope) (s : Scope) → Fits env s → Fits env (opened s)
fits-opened env s fits = record {
  more = fits.more;
  prefix = fits.prefix;
  structs = fits.structs;
  buffers = fits.buffers;
  variables = fits.variables;
  functions = fits.functions;
  result = fits.result;
}

pub fits-looped : (env : places.Scope) (s : Scope) → Fits env s → Fits env (looped s)
fits-looped env s fits = record {
  more = fits.more;
  prefix = fits.prefix;
  structs = fits.structs;
  buffers = fits.buffers;
  variables = fits.variables;
  functions = fits.functions;
  result = fits.result;
}

pub fits-more : (env : places.Scope) (count : ℕ) (s : Scope) → Fits env s → Fits env (behind count s)
fits-more env count s fits = record {
  more = fits.more;
  prefix = fits.prefix;
  structs = fits.structs;
  buffers = fits.buffers;
  variables = fits.variables;
  functions = fits.functions;
  result = fits.result;
}

-- ---- forms

-- a block
pub block-made : (s : Scope) (variables : List Variable) (code : Option Stmts) (r : Bool) → IsMade (opened s) variables code r → IsMade s variables (option_map (λ body. one_stmt (block_stmt body)) code) r
block-made s variables code r made = record {
  to = one_stmt (block_stmt made.to);
  is = ap (λ o. option_map (λ body. one_stmt (block_stmt body)) o) made.is;
  always = or-none (one_returns made.to) ∙ made.always;
  types = made.types;
  are = λ env fits holds. (made.are env (fits-opened env s fits) holds, tt);
}

-- a condition, where it becomes one
pub record IsMadeCondition (s : Scope) (code : Option Expr) : Type 0 where
  pub to : Expr
  pub is : code ≡ Some to
  pub made : (env : places.Scope) → Fits env s → IsCondition env to

pub record IsMadeConditionIf (s : Scope) (code : Option (Option Expr)) : Type 0 where
  pub to : Option Expr
  pub is : code ≡ Some to
  pub made : (env : places.Scope) → Fits env s → IsConditionIf env to

-- the step of a `for`
pub record IsMadeStep (s : Scope) (code : Option (Option Expr)) : Type 0 where
  pub to : Option Expr
  pub is : code ≡ Some to
  pub made : (env : places.Scope) → Fits env s → IsExprIf env to

pub with_three-there : {A B C D : Type 0} (f : A → B → C → Option D) (a : Option A) (b : Option B) (c : Option C) (x : A) (y : B) (z : C) → a ≡ Some x → b ≡ Some y → c ≡ Some z → with_three f a b c ≡ f x y z
with_three-there f a b c x y z e k l = ap (λ o. with_three f o b c) e ∙ with_two-there (f x) b c y z k l

-- one statement where one must stand, or none
pub some-made : (s : Scope) (variables : List Variable) (code : Option Stmts) (r : Bool) → IsMade s variables code r → IsMadeIf s variables (option_map (λ inner. some_stmt (single inner)) code) r
some-made s variables code r made = record {
  to = some_stmt (single made.to);
  is = ap (λ o. option_map (λ inner. some_stmt (single inner)) o) made.is;
  always = single-returns made.to ∙ made.always;
  types = made.types;
  are = λ env fits holds. single-is env s.in_loop made.to (made.are env fits holds);
}

pub no-made : (s : Scope) → IsMadeIf s [] (Some no_stmt) false
no-made s = record { to = no_stmt; is = refl; always = refl; types = no-variables (known_words s.structs); are = λ env fits holds. tt }

pub if-made : (s : Scope) (count : ℕ) (a b : List Variable) (condition : Option Expr) (consequent : Option Stmts) (alternative : Option MaybeStmt) (r q : Bool) → length a ≡ count → IsMadeCondition s condition → IsMade (opened s) a consequent r → IsMadeIf (opened (behind count s)) b alternative q →
    IsMade s (a ++ b) (with_three (λ cond inner other. Some (one_stmt (if_stmt cond (single inner) other))) condition consequent alternative) (r && q)
if-made s count a b condition consequent alternative r q e cond made other = record {
  to = one_stmt (if_stmt cond.to (single made.to) other.to);
  is = with_three-there (λ c inner o. Some (one_stmt (if_stmt c (single inner) o))) condition consequent alternative cond.to made.to other.to cond.is made.is other.is;
  always =
      or-none (always_returns (single made.to) && returns_if other.to)
      ∙ (ap (λ x. x && returns_if other.to) (single-returns made.to ∙ made.always) ∙ ap (λ x. r && x) other.always);
  types = All-append (λ (v : Variable). IsKnownType (known_words s.structs) v.ty) a b made.types other.types;
  are = λ env fits holds. (
    (
      cond.made env fits,
      single-is env s.in_loop made.to (made.are env (fits-opened env s fits) (holds-left env.variables s.variables a b holds)),
      other.are env (fits-opened env (behind count s) (fits-more env count s fits)) (holds-right env.variables s.variables count a b e holds),
    ),
    tt,
  );
}

pub while-made : (s : Scope) (variables : List Variable) (condition : Option Expr) (body : Option Stmts) (r : Bool) → IsMadeCondition s condition → IsMade (looped s) variables body r → IsMade s variables (with_two (λ cond inner. Some (one_stmt (while_stmt cond (single inner)))) condition body) false
while-made s variables condition body r cond made = record {
  to = one_stmt (while_stmt cond.to (single made.to));
  is = with_two-there (λ c inner. Some (one_stmt (while_stmt c (single inner)))) condition body cond.to made.to cond.is made.is;
  always = refl;
  types = made.types;
  are = λ env fits holds. ((cond.made env fits, single-is env true made.to (made.are env (fits-looped env s fits) holds)), tt);
}

pub do-made : (s : Scope) (variables : List Variable) (condition : Option Expr) (body : Option Stmts) (r : Bool) → IsMadeCondition s condition → IsMade (looped s) variables body r → IsMade s variables (with_two (λ inner cond. Some (one_stmt (do_stmt (single inner) cond))) body condition) false
do-made s variables condition body r cond made = record {
  to = one_stmt (do_stmt (single made.to) cond.to);
  is = with_two-there (λ inner c. Some (one_stmt (do_stmt (single inner) c))) body condition made.to cond.to made.is cond.is;
  always = refl;
  types = made.types;
  are = λ env fits holds. ((single-is env true made.to (made.are env (fits-looped env s fits) holds), cond.made env fits), tt);
}

for-there : (first : Option Stmts) (condition step : Option (Option Expr)) (body : Option Stmts) (init : Stmts) (c n : Option Expr) (inner : Stmts) → first ≡ Some init → condition ≡ Some c → step ≡ Some n → body ≡ Some inner → for_code first condition step body ≡ Some (one_stmt (for_stmt init c n (single inner)))
for-there first condition step body init c n inner e k l m =
    ap (λ o. for_code o condition step body) e ∙ with_three-there (λ x y z. Some (one_stmt (for_stmt init x y (single z)))) condition step body c n inner k l m

-- a `for`, whose condition, step and body stand behind its first part, in its block
pub for-made : (s t : Scope) (a b : List Variable) (first : Option Stmts) (condition step : Option (Option Expr)) (body : Option Stmts) (r q : Bool) → IsMade (opened s) a first r → IsDeclaring (opened s) t a → IsMadeConditionIf t condition → IsMadeStep t step → IsMade (looped t) b body q → IsMade s (a ++ b) (for_code first condition step body) false
for-made s t a b first condition step body r q init declares cond next made = record {
  to = one_stmt (for_stmt init.to cond.to next.to (single made.to));
  is = for-there first condition step body init.to cond.to next.to made.to init.is cond.is next.is made.is;
  always = refl;
  types =
      All-append (λ (v : Variable). IsKnownType (known_words s.structs) v.ty) a b init.types
      (subst (λ l. AreKnownVariables (known_words l) b) declares.same.structs made.types);
  are = λ env fits holds.
      let outer = fits-opened env s fits in
      let left = holds-left env.variables s.variables a b holds in
      let inner = declaring-fits (opened s) t a declares env outer left in (
        (
          init.are env outer left,
          cond.made env inner,
          next.made env inner,
          single-is env true made.to (made.are env (fits-looped env t inner) (holds-behind (opened s) t env.variables a b declares.same holds)),
        ),
        tt,
      );
}
