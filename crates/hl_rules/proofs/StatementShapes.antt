-- The grammar gives statements, items and programs their shapes.
use Rattle.std.proofs.Common.{refl, arith, ℕ, List, [], Option, None, Some}
use Rattle.hl_lexer.specs.declared.terminal.Terminal.TheVariants as terminals
use Rattle.hl_lexer.specs.Tokens.{Lexeme}
use Rattle.hl_parser.specs.Grammar.{Each, ElseIs, FirstIs, Headed, Mark, PerhapsToken, RegisterIs, SemanticIs, SpaceIs, Spells, SpellsProgram, Step, first_among, first_if, first_of, is_jump, numbered, ◌then◌}
use Rattle.hl_parser.specs.Trees.{Maybe, Tree, Trees, a_block, a_buffer, a_constant, a_do, a_for, a_function, a_jump, a_local, a_param, a_program, a_shared, a_stmt, a_struct, a_while, absent, an_if, an_item, at_of, more_trees, no_trees, present}
use Rattle.hl_lexer.specs.declared.terminal.Terminal.{Terminal}
use Rattle.hl_rules.specs.Source.{terminals_of}
use Rattle.hl_rules.proofs.DeclarationShapes.{walk-attribute, walk-declarator, walk-declarators, walk-direction, walk-each, walk-init, walk-kind, walk-listed-of, walk-member, walk-perhaps, walk-perhaps-listed-of, walk-result, walk-several, walk-start, walk-type}
use Rattle.hl_rules.proofs.ExpressionShapes.{walk-expr}
use Rattle.hl_rules.proofs.Productions.{production_of, stands, stands-itself}
use Rattle.hl_rules.proofs.Shapes.{IsExpression}
use Rattle.hl_rules.proofs.TreeShapes.{AreAttributes, AreStatements, IfTree, IsAttribute, IsBlock, IsDeclaration, IsDirection, IsFirstPart, IsItem, IsLocal, IsMember, IsParam, IsPart, IsProgram, IsStart, IsStatement, IsStatementIf}
use Rattle.hl_rules.proofs.Walking.{Walks, source-read, walk-as, walk-at, walk-before, walk-behind, walk-map, walk-mark, walk-nothing, walk-or, walk-past, walk-then, walk-token, walk-word}

walk-perhaps_token : (tokens : List Lexeme) (index : Option ℕ) (terminal : Terminal) → Walks tokens (PerhapsToken index terminal) (Unit {0})
walk-perhaps_token tokens None terminal = walk-nothing tokens tt
walk-perhaps_token tokens (Some index) terminal = walk-map tokens _ (λ r. tt) (walk-token tokens index terminal)

walk-attributes : (tokens : List Lexeme) (attributes : Trees) → Walks tokens (Each 17 attributes) (AreAttributes tokens attributes)
walk-attributes tokens attributes = walk-each tokens 17 (IsAttribute tokens) (walk-attribute tokens) attributes

-- attributes and a word in front of a step
walk-headed : {P : Type 0} (tokens : List Lexeme) (at : ℕ) (attributes : Trees) (word : Terminal) (step : Step) → Walks tokens step P → Walks tokens (Headed at attributes (Each 17 attributes) word then step) (AreAttributes tokens attributes × P)
walk-headed tokens at attributes word step f from to h read =
    let head = walk-attributes tokens attributes from h.1.2.0 h.1.2.1 read in
    let behind = walk-token tokens h.1.0 word h.1.2.0 h.0 h.1.2.2 head.1 in
    let rest = f h.0 to h.2 behind.1 in
    ((head.0, rest.0), rest.1)

walk-local : (tokens : List Lexeme) (tree : Tree) → Walks tokens (Spells 20 tree) (IsLocal tokens tree)
walk-local tokens (a_local at constant type starts) =
    walk-as tokens 20 20 _ (walk-at tokens at (first_of constant (at_of type)) _ (walk-map tokens _ (λ r. (r.1.0, r.1.1.0, r.1.1.1))
    (walk-then tokens _ _ (walk-perhaps_token tokens constant terminals.Const)
    (walk-then tokens _ _ (walk-type tokens type) (walk-listed-of tokens 21 (IsStart tokens) (walk-start tokens) starts)))))
walk-local tokens tree = λ from to h read. absurd (let e = stands-itself 20 (production_of tree) (omega arith) (stands tree 20 from to h) in omega (arith, e))

local-part : (tokens : List Lexeme) (tree : Tree) → IsLocal tokens tree → IsPart tokens tree
local-part tokens (a_local at constant type starts) h = h
local-part tokens tree h = absurd h

local-first : (tokens : List Lexeme) (tree : Tree) → IsLocal tokens tree → IsFirstPart tokens tree
local-first tokens (a_local at constant type starts) h = h
local-first tokens tree h = absurd h

expression-part : (tokens : List Lexeme) (tree : Tree) → IsExpression tokens tree → IsPart tokens tree
expression-part tokens (a_block at statements) h = absurd h
expression-part tokens (a_local at constant type starts) h = absurd h
expression-part tokens (an_if at attributes condition consequent alternative) h = absurd h
expression-part tokens (a_for at attributes first condition step body) h = absurd h
expression-part tokens (a_while at attributes condition body) h = absurd h
expression-part tokens (a_do at attributes body condition) h = absurd h
expression-part tokens (a_jump at value) h = absurd h
expression-part tokens tree h = h

expression-first : (tokens : List Lexeme) (tree : Tree) → IsExpression tokens tree → IsFirstPart tokens tree
expression-first tokens (a_local at constant type starts) h = absurd h
expression-first tokens tree h = h

walk-first : (tokens : List Lexeme) (first : Maybe) → Walks tokens (FirstIs first) (IfTree (IsFirstPart tokens) first)
walk-first tokens absent = walk-nothing tokens tt
walk-first tokens (present first) =
    walk-or tokens _ _
    (walk-map tokens _ (local-first tokens first) (walk-local tokens first))
    (walk-map tokens _ (expression-first tokens first) (walk-expr tokens first))

walk-jump : (tokens : List Lexeme) (tree : Tree) → Walks tokens (Spells 26 tree) (IsPart tokens tree)
walk-jump tokens (a_jump at absent) = walk-as tokens 26 26 _ (walk-word tokens at is_jump)
walk-jump tokens (a_jump at (present value)) =
    walk-as tokens 26 26 _ (walk-then tokens _ _ (walk-token tokens at terminals.Return) (walk-expr tokens value))
walk-jump tokens tree = λ from to h read. absurd (let e = stands-itself 26 (production_of tree) (omega arith) (stands tree 26 from to h) in omega (arith, e))

-- a step before two marks
walk-before-two : {P : Type 0} (tokens : List Lexeme) (one other : Terminal) (step : Step) → Walks tokens step P → Walks tokens (step then Mark one then Mark other) P
walk-before-two tokens one other step f =
    walk-map tokens _ (λ r. r.0) (walk-then tokens _ _ f (walk-behind tokens one _ (walk-mark tokens other)))

mutual
  walk-statement : (tokens : List Lexeme) (tree : Tree) → Walks tokens (Spells 19 tree) (IsStatement tokens tree)
  walk-statement tokens (a_stmt at absent) = walk-as tokens 19 19 _ (walk-map tokens _ (λ r. tt) (walk-token tokens at terminals.Semicolon))
  walk-statement tokens (a_stmt at (present part)) =
      walk-as tokens 19 19 _ (walk-at tokens at (at_of part) _
      (walk-or tokens _ _ (walk-block tokens part)
      (walk-or tokens _ _ (walk-before tokens terminals.Semicolon _ (walk-map tokens _ (local-part tokens part) (walk-local tokens part)))
      (walk-or tokens _ _ (walk-before tokens terminals.Semicolon _ (walk-map tokens _ (expression-part tokens part) (walk-expr tokens part)))
      (walk-or tokens _ _ (walk-if tokens part)
      (walk-or tokens _ _ (walk-for tokens part)
      (walk-or tokens _ _ (walk-while tokens part)
      (walk-or tokens _ _ (walk-do tokens part)
      (walk-before tokens terminals.Semicolon _ (walk-jump tokens part))))))))))
  walk-statement tokens tree = λ from to h read. absurd (let e = stands-itself 19 (production_of tree) (omega arith) (stands tree 19 from to h) in omega (arith, e))

  walk-block : (tokens : List Lexeme) (tree : Tree) → Walks tokens (Spells 18 tree) (IsPart tokens tree)
  walk-block tokens (a_block at statements) =
      walk-as tokens 18 18 _ (walk-past tokens at terminals.OpenBrace _
      (walk-before tokens terminals.CloseBrace _ (walk-statements tokens statements)))
  walk-block tokens tree = λ from to h read. absurd (let e = stands-itself 18 (production_of tree) (omega arith) (stands tree 18 from to h) in omega (arith, e))

  walk-if : (tokens : List Lexeme) (tree : Tree) → Walks tokens (Spells 22 tree) (IsPart tokens tree)
  walk-if tokens (an_if at attributes condition consequent alternative) =
      walk-as tokens 22 22 _ (walk-map tokens _ (λ r. (r.0, r.1.0, r.1.1.0, r.1.1.1))
      (walk-headed tokens at attributes terminals.If _ (walk-behind tokens terminals.OpenParenthesis _
      (walk-then tokens _ _ (walk-expr tokens condition) (walk-behind tokens terminals.CloseParenthesis _
      (walk-then tokens _ _ (walk-statement tokens consequent) (walk-else tokens alternative)))))))
  walk-if tokens tree = λ from to h read. absurd (let e = stands-itself 22 (production_of tree) (omega arith) (stands tree 22 from to h) in omega (arith, e))

  walk-else : (tokens : List Lexeme) (alternative : Maybe) → Walks tokens (ElseIs alternative) (IsStatementIf tokens alternative)
  walk-else tokens absent = λ from to h read. walk-nothing tokens tt from to h.0 read
  walk-else tokens (present alternative) = walk-behind tokens terminals.Else _ (walk-statement tokens alternative)

  walk-for : (tokens : List Lexeme) (tree : Tree) → Walks tokens (Spells 23 tree) (IsPart tokens tree)
  walk-for tokens (a_for at attributes first condition step body) =
      walk-as tokens 23 23 _ (walk-map tokens _ (λ r. (r.0, r.1.0, r.1.1.0, r.1.1.1.0, r.1.1.1.1))
      (walk-headed tokens at attributes terminals.For _ (walk-behind tokens terminals.OpenParenthesis _
      (walk-then tokens _ _ (walk-first tokens first) (walk-behind tokens terminals.Semicolon _
      (walk-then tokens _ _ (walk-perhaps tokens 27 (IsExpression tokens) (walk-expr tokens) condition)
      (walk-behind tokens terminals.Semicolon _
      (walk-then tokens _ _ (walk-perhaps tokens 27 (IsExpression tokens) (walk-expr tokens) step)
      (walk-behind tokens terminals.CloseParenthesis _ (walk-statement tokens body))))))))))
  walk-for tokens tree = λ from to h read. absurd (let e = stands-itself 23 (production_of tree) (omega arith) (stands tree 23 from to h) in omega (arith, e))

  walk-while : (tokens : List Lexeme) (tree : Tree) → Walks tokens (Spells 24 tree) (IsPart tokens tree)
  walk-while tokens (a_while at attributes condition body) =
      walk-as tokens 24 24 _ (walk-map tokens _ (λ r. (r.0, r.1.0, r.1.1))
      (walk-headed tokens at attributes terminals.While _ (walk-behind tokens terminals.OpenParenthesis _
      (walk-then tokens _ _ (walk-expr tokens condition)
      (walk-behind tokens terminals.CloseParenthesis _ (walk-statement tokens body))))))
  walk-while tokens tree = λ from to h read. absurd (let e = stands-itself 24 (production_of tree) (omega arith) (stands tree 24 from to h) in omega (arith, e))

  walk-do : (tokens : List Lexeme) (tree : Tree) → Walks tokens (Spells 25 tree) (IsPart tokens tree)
  walk-do tokens (a_do at attributes body condition) =
      walk-as tokens 25 25 _ (walk-map tokens _ (λ r. (r.0, r.1.0, r.1.1))
      (walk-headed tokens at attributes terminals.Do _
      (walk-then tokens _ _ (walk-statement tokens body) (walk-behind tokens terminals.While _
      (walk-behind tokens terminals.OpenParenthesis _
      (walk-before-two tokens terminals.CloseParenthesis terminals.Semicolon _ (walk-expr tokens condition)))))))
  walk-do tokens tree = λ from to h read. absurd (let e = stands-itself 25 (production_of tree) (omega arith) (stands tree 25 from to h) in omega (arith, e))

  walk-statements : (tokens : List Lexeme) (trees : Trees) → Walks tokens (Each 19 trees) (AreStatements tokens trees)
  walk-statements tokens no_trees = walk-nothing tokens tt
  walk-statements tokens (more_trees first rest) = walk-then tokens _ _ (walk-statement tokens first) (walk-statements tokens rest)

-- ---- items

walk-semantic : (tokens : List Lexeme) (semantic : Option ℕ) → Walks tokens (SemanticIs semantic) (Unit {0})
walk-semantic tokens None = walk-nothing tokens tt
walk-semantic tokens (Some name) = walk-behind tokens terminals.Colon _ (walk-map tokens _ (λ r. tt) (walk-token tokens name terminals.Name))

walk-space : (tokens : List Lexeme) (space : Option ℕ) → Walks tokens (SpaceIs space) (Unit {0})
walk-space tokens None = walk-nothing tokens tt
walk-space tokens (Some name) = walk-behind tokens terminals.Comma _ (walk-map tokens _ (λ r. tt) (walk-token tokens name terminals.Name))

walk-register : (tokens : List Lexeme) (register space : Option ℕ) → Walks tokens (RegisterIs register space) (Unit {0})
walk-register tokens None None = walk-nothing tokens tt
walk-register tokens None (Some space) = λ from to h read. absurd h
walk-register tokens (Some name) space =
    walk-behind tokens terminals.Colon _ (walk-behind tokens terminals.Register _
    (walk-behind tokens terminals.OpenParenthesis _ (walk-past tokens name terminals.Name _
    (walk-before tokens terminals.CloseParenthesis _ (walk-space tokens space)))))

walk-param : (tokens : List Lexeme) (tree : Tree) → Walks tokens (Spells 15 tree) (IsParam tokens tree)
walk-param tokens (a_param at constant direction type declarator semantic) =
    walk-as tokens 15 15 _ (walk-at tokens at (first_of constant (first_if direction (at_of type))) _
    (walk-map tokens _ (λ r. (r.1.0, r.1.1.0, r.1.1.1.0))
    (walk-then tokens _ _ (walk-perhaps_token tokens constant terminals.Const)
    (walk-then tokens _ _ (walk-perhaps tokens 16 (IsDirection tokens) (walk-direction tokens) direction)
    (walk-then tokens _ _ (walk-type tokens type)
    (walk-then tokens _ _ (walk-declarator tokens declarator) (walk-semantic tokens semantic)))))))
walk-param tokens tree = λ from to h read. absurd (let e = stands-itself 15 (production_of tree) (omega arith) (stands tree 15 from to h) in omega (arith, e))

function-block : (tokens : List Lexeme) (tree : Tree) → Walks tokens (Spells 18 tree) (IsBlock tokens tree)
function-block tokens (a_block at statements) = walk-block tokens (a_block at statements)
function-block tokens tree = λ from to h read. absurd (let e = stands-itself 18 (production_of tree) (omega arith) (stands tree 18 from to h) in omega (arith, e))

walk-function : (tokens : List Lexeme) (tree : Tree) → Walks tokens (Spells 13 tree) (IsDeclaration tokens tree)
walk-function tokens (a_function at attributes result name params block) =
    walk-as tokens 13 13 _ (walk-at tokens at (first_among attributes (at_of result)) _
    (walk-map tokens _ (λ r. (r.0, r.1.0, r.1.1.0, r.1.1.1))
    (walk-then tokens _ _ (walk-attributes tokens attributes)
    (walk-then tokens _ _ (walk-result tokens result)
    (walk-past tokens name terminals.Name _ (walk-behind tokens terminals.OpenParenthesis _
    (walk-then tokens _ _ (walk-perhaps-listed-of tokens 15 (IsParam tokens) (walk-param tokens) params)
    (walk-behind tokens terminals.CloseParenthesis _ (function-block tokens block)))))))))
walk-function tokens tree = λ from to h read. absurd (let e = stands-itself 13 (production_of tree) (omega arith) (stands tree 13 from to h) in omega (arith, e))

walk-struct : (tokens : List Lexeme) (tree : Tree) → Walks tokens (Spells 3 tree) (IsDeclaration tokens tree)
walk-struct tokens (a_struct at name members) =
    walk-as tokens 3 3 _ (walk-past tokens at terminals.Struct _ (walk-past tokens name terminals.Name _
    (walk-behind tokens terminals.OpenBrace _ (walk-map tokens _ (λ r. r.0)
    (walk-then tokens _ _ (walk-several tokens 4 (IsMember tokens) (walk-member tokens) members)
    (walk-behind tokens terminals.CloseBrace _ (walk-mark tokens terminals.Semicolon)))))))
walk-struct tokens tree = λ from to h read. absurd (let e = stands-itself 3 (production_of tree) (omega arith) (stands tree 3 from to h) in omega (arith, e))

walk-buffer : (tokens : List Lexeme) (tree : Tree) → Walks tokens (Spells 8 tree) (IsDeclaration tokens tree)
walk-buffer tokens (a_buffer at kind name register space) =
    walk-as tokens 8 8 _ (walk-at tokens at (at_of kind) _ (walk-map tokens _ (λ r. r.0)
    (walk-then tokens _ _ (walk-kind tokens kind) (walk-past tokens name terminals.Name _
    (walk-before tokens terminals.Semicolon _ (walk-register tokens register space))))))
walk-buffer tokens tree = λ from to h read. absurd (let e = stands-itself 8 (production_of tree) (omega arith) (stands tree 8 from to h) in omega (arith, e))

walk-shared : (tokens : List Lexeme) (tree : Tree) → Walks tokens (Spells 10 tree) (IsDeclaration tokens tree)
walk-shared tokens (a_shared at type declarators) =
    walk-as tokens 10 10 _ (walk-past tokens at terminals.Groupshared _
    (walk-then tokens _ _ (walk-type tokens type)
    (walk-before tokens terminals.Semicolon _ (walk-declarators tokens declarators))))
walk-shared tokens tree = λ from to h read. absurd (let e = stands-itself 10 (production_of tree) (omega arith) (stands tree 10 from to h) in omega (arith, e))

walk-constant : (tokens : List Lexeme) (tree : Tree) → Walks tokens (Spells 11 tree) (IsDeclaration tokens tree)
walk-constant tokens (a_constant at type declarator init) =
    walk-as tokens 11 11 _ (walk-past tokens at terminals.Static _ (walk-behind tokens terminals.Const _
    (walk-map tokens _ (λ r. (r.0, r.1.0, r.1.1))
    (walk-then tokens _ _ (walk-type tokens type)
    (walk-then tokens _ _ (walk-declarator tokens declarator)
    (walk-behind tokens terminals.Equals _ (walk-before tokens terminals.Semicolon _ (walk-init tokens init))))))))
walk-constant tokens tree = λ from to h read. absurd (let e = stands-itself 11 (production_of tree) (omega arith) (stands tree 11 from to h) in omega (arith, e))

walk-item : (tokens : List Lexeme) (tree : Tree) → Walks tokens (Spells 2 tree) (IsItem tokens tree)
walk-item tokens (an_item at item) =
    walk-as tokens 2 2 _ (walk-at tokens at (at_of item) _
    (walk-or tokens _ _ (walk-struct tokens item)
    (walk-or tokens _ _ (walk-buffer tokens item)
    (walk-or tokens _ _ (walk-shared tokens item)
    (walk-or tokens _ _ (walk-constant tokens item) (walk-function tokens item))))))
walk-item tokens tree = λ from to h read. absurd (let e = stands-itself 2 (production_of tree) (omega arith) (stands tree 2 from to h) in omega (arith, e))

walk-program : (tokens : List Lexeme) (tree : Tree) → Walks tokens (Spells 1 tree) (IsProgram tokens tree)
walk-program tokens (a_program at no_trees) = λ from to h read. absurd h
walk-program tokens (a_program at (more_trees first rest)) =
    walk-as tokens 1 1 _ (walk-at tokens at (at_of first) _ (walk-map tokens _ (λ r. (refl, r))
    (walk-then tokens _ _ (walk-item tokens first) (walk-each tokens 2 (IsItem tokens) (walk-item tokens) rest))))
walk-program tokens tree = λ from to h read. absurd (let e = stands-itself 1 (production_of tree) (omega arith) (stands tree 1 from to h) in omega (arith, e))

-- a tree that the tokens of a source spell has the shape of a program
pub program-shape : (tokens : List Lexeme) (tree : Tree) → SpellsProgram (terminals_of tokens) tree → IsProgram tokens tree
program-shape tokens tree h = (walk-program tokens tree (numbered 0 (terminals_of tokens)) [] h (source-read tokens)).0
