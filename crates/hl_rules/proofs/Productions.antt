-- The production of each form of trees, and which of them may stand where one is asked for.
use Rattle.std.proofs.Common.{◌≡◌, refl, arith, ℕ, ◌<◌, ◌≤◌, List, Bool, true, false, if◌then◌else◌, nat_le, nat_lt, None, Some}
use Rattle.hl_parser.specs.Grammar.{Numbered, Spells, last_for}
use Rattle.hl_parser.specs.Trees.{Tree, a_basic, a_binary, a_block, a_buffer, a_choice, a_constant, a_declarator, a_direction, a_do, a_for, a_function, a_jump, a_kind, a_local, a_member, a_param, a_postfix, a_primary, a_program, a_result, a_shared, a_start, a_stmt, a_struct, a_type, a_unary, a_while, absent, an_args, an_attribute, an_expr, an_if, an_init, an_item, more_trees, no_trees, present}

abbrev pub production_of : Tree → ℕ
production_of (a_program at items) = 1
production_of (an_item at item) = 2
production_of (a_struct at name members) = 3
production_of (a_member at type declarators) = 4
production_of (a_type at basic) = 5
production_of (a_basic at) = 6
production_of (a_declarator at lengths) = 7
production_of (a_buffer at kind name register space) = 8
production_of (a_kind at element) = 9
production_of (a_shared at type declarators) = 10
production_of (a_constant at type declarator init) = 11
production_of (an_init at value parts) = 12
production_of (a_function at attributes result name params block) = 13
production_of (a_result at type) = 14
production_of (a_param at constant direction type declarator semantic) = 15
production_of (a_direction at) = 16
production_of (an_attribute at name arguments) = 17
production_of (a_block at statements) = 18
production_of (a_stmt at part) = 19
production_of (a_local at constant type starts) = 20
production_of (a_start at declarator init) = 21
production_of (an_if at attributes condition consequent alternative) = 22
production_of (a_for at attributes first condition step body) = 23
production_of (a_while at attributes condition body) = 24
production_of (a_do at attributes body condition) = 25
production_of (a_jump at value) = 26
production_of (an_expr at left mark right) = 27
production_of (a_choice at condition consequent alternative) = 29
production_of (a_binary production at left mark right) = production
production_of (a_unary at cast operand) = 40
production_of (a_postfix at operand mark name part) = 41
production_of (a_primary at part arguments) = 42
production_of (an_args at arguments) = 43

-- a production that may stand where one is asked for
pub record Stands (asked production : ℕ) : Type 0 where
  pub from : asked ≤ production
  pub to : production ≤ last_for asked

pub stands : (tree : Tree) (asked : ℕ) (from to : List Numbered) → Spells asked tree from to → Stands asked (production_of tree)
stands (a_program at no_trees) asked from to h = absurd h
stands (a_program at (more_trees item items)) asked from to h = record { from = h.0; to = h.1 }
stands (an_item at item) asked from to h = record { from = h.0; to = h.1 }
stands (a_struct at name members) asked from to h = record { from = h.0; to = h.1 }
stands (a_member at type declarators) asked from to h = record { from = h.0; to = h.1 }
stands (a_type at (present basic)) asked from to h = record { from = h.0; to = h.1 }
stands (a_type at absent) asked from to h = record { from = h.0; to = h.1 }
stands (a_basic at) asked from to h = record { from = h.0; to = h.1 }
stands (a_declarator at lengths) asked from to h = record { from = h.0; to = h.1 }
stands (a_buffer at kind name register space) asked from to h = record { from = h.0; to = h.1 }
stands (a_kind at absent) asked from to h = record { from = h.0; to = h.1 }
stands (a_kind at (present element)) asked from to h = record { from = h.0; to = h.1 }
stands (a_shared at type declarators) asked from to h = record { from = h.0; to = h.1 }
stands (a_constant at type declarator init) asked from to h = record { from = h.0; to = h.1 }
stands (an_init at (present value) no_trees) asked from to h = record { from = h.0; to = h.1 }
stands (an_init at (present value) (more_trees part parts)) asked from to h = absurd h
stands (an_init at absent parts) asked from to h = record { from = h.0; to = h.1 }
stands (a_function at attributes result name params block) asked from to h = record { from = h.0; to = h.1 }
stands (a_result at absent) asked from to h = record { from = h.0; to = h.1 }
stands (a_result at (present type)) asked from to h = record { from = h.0; to = h.1 }
stands (a_param at constant direction type declarator semantic) asked from to h = record { from = h.0; to = h.1 }
stands (a_direction at) asked from to h = record { from = h.0; to = h.1 }
stands (an_attribute at name arguments) asked from to h = record { from = h.0; to = h.1 }
stands (a_block at statements) asked from to h = record { from = h.0; to = h.1 }
stands (a_stmt at (present part)) asked from to h = record { from = h.0; to = h.1 }
stands (a_stmt at absent) asked from to h = record { from = h.0; to = h.1 }
stands (a_local at constant type starts) asked from to h = record { from = h.0; to = h.1 }
stands (a_start at declarator init) asked from to h = record { from = h.0; to = h.1 }
stands (an_if at attributes condition consequent alternative) asked from to h = record { from = h.0; to = h.1 }
stands (a_for at attributes first condition step body) asked from to h = record { from = h.0; to = h.1 }
stands (a_while at attributes condition body) asked from to h = record { from = h.0; to = h.1 }
stands (a_do at attributes body condition) asked from to h = record { from = h.0; to = h.1 }
stands (a_jump at absent) asked from to h = record { from = h.0; to = h.1 }
stands (a_jump at (present value)) asked from to h = record { from = h.0; to = h.1 }
stands (an_expr at left mark right) asked from to h = record { from = h.0; to = h.1 }
stands (a_choice at condition consequent alternative) asked from to h = record { from = h.0; to = h.1 }
stands (a_binary production at left mark right) asked from to h = record { from = h.2.0; to = h.2.1 }
stands (a_unary at absent operand) asked from to h = record { from = h.0; to = h.1 }
stands (a_unary at (present basic) operand) asked from to h = record { from = h.0; to = h.1 }
stands (a_postfix at operand mark (Some name) absent) asked from to h = record { from = h.0; to = h.1 }
stands (a_postfix at operand mark (Some name) (present arguments)) asked from to h = record { from = h.0; to = h.1 }
stands (a_postfix at operand mark None (present index)) asked from to h = record { from = h.0; to = h.1 }
stands (a_postfix at operand mark None absent) asked from to h = record { from = h.0; to = h.1 }
stands (a_primary at absent absent) asked from to h = record { from = h.0; to = h.1 }
stands (a_primary at absent (present arguments)) asked from to h = record { from = h.0; to = h.1 }
stands (a_primary at (present basic) (present arguments)) asked from to h = record { from = h.0; to = h.1 }
stands (a_primary at (present inner) absent) asked from to h = record { from = h.0; to = h.1 }
stands (an_args at arguments) asked from to h = record { from = h.0; to = h.1 }

-- ---- which productions stand where

-- before the expressions a production stands for itself alone
pub stands-itself : (asked production : ℕ) → asked ≤ 26 → Stands asked production → production ≡ asked
stands-itself asked production below h = on (nat_lt asked 27) refl h.to
  where
    on : (early : Bool) → nat_lt asked 27 ≡ early → production ≤ (if early then asked else (if nat_le asked 42 then 42 else asked)) → production ≡ asked
    on true e k = let from : asked ≤ production = h.from in omega arith
    on false e k = absurd (let far : 27 ≤ asked = grind arith in omega arith)

-- and so do arguments
pub stands-arguments : (production : ℕ) → Stands 43 production → production ≡ 43
stands-arguments production h = let from : 43 ≤ production = h.from in let to : production ≤ 43 = h.to in omega arith

-- where an expression is asked for stands an expression
pub record IsExpressionNumber (production : ℕ) : Type 0 where
  pub from : 27 ≤ production
  pub to : production ≤ 42

pub stands-expression : (asked production : ℕ) → IsExpressionNumber asked → Stands asked production → IsExpressionNumber production
stands-expression asked production within h = on (nat_lt asked 27) (nat_le asked 42) refl refl h.to
  where
    on : (early late : Bool) → nat_lt asked 27 ≡ early → nat_le asked 42 ≡ late → production ≤ (if early then asked else (if late then 42 else asked)) → IsExpressionNumber production
    on true late e k to = absurd (let low : 27 ≤ asked = within.from in let far : asked < 27 = grind arith in omega arith)
    on false true e k to = let low : 27 ≤ asked = within.from in let from : asked ≤ production = h.from in record { from = omega arith; to = to }
    on false false e k to = absurd (let high : asked ≤ 42 = within.to in let far : 42 < asked = grind arith in omega arith)
