-- The grammar gives the parts of declarations their shapes.
use Rattle.std.proofs.Common.{refl, arith, ℕ, List}
use Rattle.std.specs.Prelude.{IsTrue}
use Rattle.hl_lexer.specs.declared.terminal.Terminal.TheVariants as terminals
use Rattle.hl_lexer.specs.Tokens.{Lexeme}
use Rattle.hl_parser.specs.Grammar.{Commas, Each, InitIs, Listed, Perhaps, PerhapsListed, Several, Spells, is_direction, is_element_kind, is_raw_kind}
use Rattle.hl_parser.specs.Trees.{Maybe, Tree, Trees, a_declarator, a_direction, a_kind, a_member, a_result, a_start, a_type, absent, an_attribute, an_init, at_of, more_trees, no_trees, present}
use Rattle.hl_rules.proofs.ExpressionShapes.{walk-attribute_arguments, walk-basic, walk-expr, walk-lengths}
use Rattle.hl_rules.proofs.Productions.{production_of, stands, stands-itself}
use Rattle.hl_rules.proofs.TreeShapes.{AllTrees, AreDeclarators, AreInits, IfTree, IsAttribute, IsDeclarator, IsDirection, IsInit, IsKindOf, IsMember, IsResultOf, IsStart, IsTypeName, are_some}
use Rattle.hl_rules.proofs.Walking.{Walks, walk-as, walk-at, walk-at-kept, walk-before, walk-behind, walk-map, walk-mark, walk-nothing, walk-or, walk-past, walk-then, walk-token, walk-word}

-- ---- several trees

pub walk-each : (tokens : List Lexeme) (production : ℕ) (P : Tree → Type 0) → ((tree : Tree) → Walks tokens (Spells production tree) (P tree)) → (trees : Trees) → Walks tokens (Each production trees) (AllTrees P trees)
walk-each tokens production P one no_trees = walk-nothing tokens tt
walk-each tokens production P one (more_trees first rest) = walk-then tokens _ _ (one first) (walk-each tokens production P one rest)

pub walk-several : (tokens : List Lexeme) (production : ℕ) (P : Tree → Type 0) → ((tree : Tree) → Walks tokens (Spells production tree) (P tree)) → (trees : Trees) → Walks tokens (Several production trees) (IsTrue (are_some trees) × AllTrees P trees)
walk-several tokens production P one no_trees = λ from to h read. absurd h
walk-several tokens production P one (more_trees first rest) =
    walk-map tokens _ (λ r. (refl, r)) (walk-then tokens _ _ (one first) (walk-each tokens production P one rest))

walk-commas-of : (tokens : List Lexeme) (production : ℕ) (P : Tree → Type 0) → ((tree : Tree) → Walks tokens (Spells production tree) (P tree)) → (trees : Trees) → Walks tokens (Commas production trees) (AllTrees P trees)
walk-commas-of tokens production P one no_trees = walk-nothing tokens tt
walk-commas-of tokens production P one (more_trees first rest) =
    walk-behind tokens terminals.Comma _ (walk-then tokens _ _ (one first) (walk-commas-of tokens production P one rest))

pub walk-listed-of : (tokens : List Lexeme) (production : ℕ) (P : Tree → Type 0) → ((tree : Tree) → Walks tokens (Spells production tree) (P tree)) → (trees : Trees) → Walks tokens (Listed production trees) (IsTrue (are_some trees) × AllTrees P trees)
walk-listed-of tokens production P one no_trees = λ from to h read. absurd h
walk-listed-of tokens production P one (more_trees first rest) =
    walk-map tokens _ (λ r. (refl, r)) (walk-then tokens _ _ (one first) (walk-commas-of tokens production P one rest))

pub walk-perhaps-listed-of : (tokens : List Lexeme) (production : ℕ) (P : Tree → Type 0) → ((tree : Tree) → Walks tokens (Spells production tree) (P tree)) → (trees : Trees) → Walks tokens (PerhapsListed production trees) (AllTrees P trees)
walk-perhaps-listed-of tokens production P one no_trees = walk-nothing tokens tt
walk-perhaps-listed-of tokens production P one (more_trees first rest) =
    walk-then tokens _ _ (one first) (walk-commas-of tokens production P one rest)

pub walk-perhaps : (tokens : List Lexeme) (production : ℕ) (P : Tree → Type 0) → ((tree : Tree) → Walks tokens (Spells production tree) (P tree)) → (tree : Maybe) → Walks tokens (Perhaps production tree) (IfTree P tree)
walk-perhaps tokens production P one absent = walk-nothing tokens tt
walk-perhaps tokens production P one (present tree) = one tree

-- ---- types and declarators

pub walk-type : (tokens : List Lexeme) (tree : Tree) → Walks tokens (Spells 5 tree) (IsTypeName tokens tree)
walk-type tokens (a_type at (present basic)) = walk-as tokens 5 5 _ (walk-at tokens at (at_of basic) _ (walk-basic tokens basic))
walk-type tokens (a_type at absent) = walk-as tokens 5 5 _ (walk-token tokens at terminals.Name)
walk-type tokens tree = λ from to h read. absurd (let e = stands-itself 5 (production_of tree) (omega arith) (stands tree 5 from to h) in omega (arith, e))

pub walk-declarator : (tokens : List Lexeme) (tree : Tree) → Walks tokens (Spells 7 tree) (IsDeclarator tokens tree)
walk-declarator tokens (a_declarator at lengths) =
    walk-as tokens 7 7 _ (walk-then tokens _ _ (walk-token tokens at terminals.Name) (walk-lengths tokens lengths))
walk-declarator tokens tree = λ from to h read. absurd (let e = stands-itself 7 (production_of tree) (omega arith) (stands tree 7 from to h) in omega (arith, e))

pub walk-declarators : (tokens : List Lexeme) (trees : Trees) → Walks tokens (Listed 7 trees) (AreDeclarators tokens trees)
walk-declarators tokens trees = walk-listed-of tokens 7 (IsDeclarator tokens) (walk-declarator tokens) trees

pub walk-result : (tokens : List Lexeme) (tree : Tree) → Walks tokens (Spells 14 tree) (IsResultOf tokens tree)
walk-result tokens (a_result at absent) = walk-as tokens 14 14 _ (walk-map tokens _ (λ r. tt) (walk-token tokens at terminals.Void))
walk-result tokens (a_result at (present type)) = walk-as tokens 14 14 _ (walk-at tokens at (at_of type) _ (walk-type tokens type))
walk-result tokens tree = λ from to h read. absurd (let e = stands-itself 14 (production_of tree) (omega arith) (stands tree 14 from to h) in omega (arith, e))

pub walk-member : (tokens : List Lexeme) (tree : Tree) → Walks tokens (Spells 4 tree) (IsMember tokens tree)
walk-member tokens (a_member at type declarators) =
    walk-as tokens 4 4 _ (walk-at tokens at (at_of type) _
    (walk-then tokens _ _ (walk-type tokens type)
    (walk-before tokens terminals.Semicolon _ (walk-declarators tokens declarators))))
walk-member tokens tree = λ from to h read. absurd (let e = stands-itself 4 (production_of tree) (omega arith) (stands tree 4 from to h) in omega (arith, e))

pub walk-kind : (tokens : List Lexeme) (tree : Tree) → Walks tokens (Spells 9 tree) (IsKindOf tokens tree)
walk-kind tokens (a_kind at absent) = walk-as tokens 9 9 _ (walk-word tokens at is_raw_kind)
walk-kind tokens (a_kind at (present element)) =
    walk-as tokens 9 9 _
    (walk-then tokens _ _ (walk-word tokens at is_element_kind)
    (walk-behind tokens terminals.Less _ (walk-before tokens terminals.Greater _ (walk-type tokens element))))
walk-kind tokens tree = λ from to h read. absurd (let e = stands-itself 9 (production_of tree) (omega arith) (stands tree 9 from to h) in omega (arith, e))

pub walk-direction : (tokens : List Lexeme) (tree : Tree) → Walks tokens (Spells 16 tree) (IsDirection tokens tree)
walk-direction tokens (a_direction at) = walk-as tokens 16 16 _ (walk-word tokens at is_direction)
walk-direction tokens tree = λ from to h read. absurd (let e = stands-itself 16 (production_of tree) (omega arith) (stands tree 16 from to h) in omega (arith, e))

pub walk-attribute : (tokens : List Lexeme) (tree : Tree) → Walks tokens (Spells 17 tree) (IsAttribute tokens tree)
walk-attribute tokens (an_attribute at name arguments) =
    walk-as tokens 17 17 _ (walk-past tokens at terminals.OpenBracket _
    (walk-then tokens _ _ (walk-token tokens name terminals.Name)
    (walk-before tokens terminals.CloseBracket _ (walk-attribute_arguments tokens arguments))))
walk-attribute tokens tree = λ from to h read. absurd (let e = stands-itself 17 (production_of tree) (omega arith) (stands tree 17 from to h) in omega (arith, e))

-- ---- initialisers

mutual
  pub walk-init : (tokens : List Lexeme) (tree : Tree) → Walks tokens (Spells 12 tree) (IsInit tokens tree)
  walk-init tokens (an_init at (present value) no_trees) =
      walk-as tokens 12 12 _ (walk-at tokens at (at_of value) _ (walk-map tokens _ (λ r. (refl, r)) (walk-expr tokens value)))
  walk-init tokens (an_init at (present value) (more_trees part parts)) = λ from to h read. absurd h
  walk-init tokens (an_init at absent parts) =
      walk-as tokens 12 12 _ (walk-past tokens at terminals.OpenBrace _ (walk-map tokens _ (λ r. r.0)
      (walk-then tokens _ _ (walk-inits tokens parts)
      (walk-or tokens _ _ (walk-mark tokens terminals.CloseBrace)
      (walk-behind tokens terminals.Comma _ (walk-mark tokens terminals.CloseBrace))))))
  walk-init tokens tree = λ from to h read. absurd (let e = stands-itself 12 (production_of tree) (omega arith) (stands tree 12 from to h) in omega (arith, e))

  walk-inits : (tokens : List Lexeme) (trees : Trees) → Walks tokens (Listed 12 trees) (IsTrue (are_some trees) × AreInits tokens trees)
  walk-inits tokens no_trees = λ from to h read. absurd h
  walk-inits tokens (more_trees first rest) =
      walk-map tokens _ (λ r. (refl, r)) (walk-then tokens _ _ (walk-init tokens first) (walk-more_inits tokens rest))

  walk-more_inits : (tokens : List Lexeme) (trees : Trees) → Walks tokens (Commas 12 trees) (AreInits tokens trees)
  walk-more_inits tokens no_trees = walk-nothing tokens tt
  walk-more_inits tokens (more_trees first rest) =
      walk-behind tokens terminals.Comma _ (walk-then tokens _ _ (walk-init tokens first) (walk-more_inits tokens rest))

walk-init_is : (tokens : List Lexeme) (init : Maybe) → Walks tokens (InitIs init) (IfTree (IsInit tokens) init)
walk-init_is tokens absent = walk-nothing tokens tt
walk-init_is tokens (present init) = walk-behind tokens terminals.Equals _ (walk-init tokens init)

pub walk-start : (tokens : List Lexeme) (tree : Tree) → Walks tokens (Spells 21 tree) (IsStart tokens tree)
walk-start tokens (a_start at declarator init) =
    walk-as tokens 21 21 _ (walk-map tokens _ (λ r. (r.0, r.1.0, r.1.1)) (walk-at-kept tokens at (at_of declarator) _
    (walk-then tokens _ _ (walk-declarator tokens declarator) (walk-init_is tokens init))))
walk-start tokens tree = λ from to h read. absurd (let e = stands-itself 21 (production_of tree) (omega arith) (stands tree 21 from to h) in omega (arith, e))
