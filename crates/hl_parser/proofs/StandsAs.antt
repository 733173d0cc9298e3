-- A tree that stands as a production is read as one.
use Rattle.std.proofs.Common.{List, [], ◌∷◌, arith}
use Rattle.hl_lexer.specs.declared.terminal.Terminal.TheVariants as terminals
use Rattle.hl_parser.specs.declared.act.Act.TheVariants as acts
use Rattle.hl_parser.specs.declared.symbol.Symbol.TheVariants as symbols
use Rattle.hl_parser.specs.Grammar.{Numbered, n_args, n_attribute, n_block, n_buffer, n_constant, n_declarator, n_do, n_for, n_function, n_if, n_init, n_item, n_jump, n_kind, n_local, n_member, n_param, n_result, n_shared, n_start, n_stmt, n_struct, n_type, n_while}
use Rattle.hl_parser.specs.Machine.{behind_kind}
use Rattle.hl_parser.specs.Trees.{Tree, an_item, a_struct, a_member, a_type, a_declarator, a_buffer, a_kind, a_shared, a_constant, an_init, a_function, a_result, a_param, an_attribute, a_block, a_stmt, a_local, a_start, an_if, a_for, a_while, a_do, a_jump, an_args, at_of}
use Rattle.hl_parser.proofs.Claims.{Claimed, Takes, TakesAttribute, TakesBefore, always, closes, ends_declarator, ends_local, ends_param, ends_start}
use Rattle.hl_parser.proofs.Shapes.{number_is}

pub as_item : (tree : Tree) (from to : List Numbered) → Claimed n_item tree from to → (Takes symbols.Item tree) from to
as_item (an_item at item) from to c = c.claim
as_item tree from to c = let n = number_is tree n_item from to c.spelled in absurd (omega arith)

pub as_struct : (tree : Tree) (from to : List Numbered) → Claimed n_struct tree from to → (TakesBefore always symbols.Item (symbols.Make acts.Item ∷ []) tree) from to
as_struct (a_struct at name members) from to c = c.claim
as_struct tree from to c = let n = number_is tree n_struct from to c.spelled in absurd (omega arith)

pub as_member : (tree : Tree) (from to : List Numbered) → Claimed n_member tree from to → (Takes symbols.Member tree) from to
as_member (a_member at type declarators) from to c = c.claim
as_member tree from to c = let n = number_is tree n_member from to c.spelled in absurd (omega arith)

pub as_type : (tree : Tree) (from to : List Numbered) → Claimed n_type tree from to → (Takes symbols.Type tree) from to
as_type (a_type at basic) from to c = c.claim
as_type tree from to c = let n = number_is tree n_type from to c.spelled in absurd (omega arith)

pub as_declarator : (tree : Tree) (from to : List Numbered) → Claimed n_declarator tree from to → (TakesBefore ends_declarator symbols.Declarator [] tree) from to
as_declarator (a_declarator at lengths) from to c = c.claim
as_declarator tree from to c = let n = number_is tree n_declarator from to c.spelled in absurd (omega arith)

pub as_buffer : (tree : Tree) (from to : List Numbered) → Claimed n_buffer tree from to → (TakesBefore always symbols.Item (symbols.Make acts.Item ∷ []) tree) from to
as_buffer (a_buffer at kind name register space) from to c = c.claim
as_buffer tree from to c = let n = number_is tree n_buffer from to c.spelled in absurd (omega arith)

pub as_kind : (tree : Tree) (from to : List Numbered) → Claimed n_kind tree from to → (TakesBefore always symbols.Item behind_kind tree) from to
as_kind (a_kind at element) from to c = c.claim
as_kind tree from to c = let n = number_is tree n_kind from to c.spelled in absurd (omega arith)

pub as_shared : (tree : Tree) (from to : List Numbered) → Claimed n_shared tree from to → (TakesBefore always symbols.Item (symbols.Make acts.Item ∷ []) tree) from to
as_shared (a_shared at type declarators) from to c = c.claim
as_shared tree from to c = let n = number_is tree n_shared from to c.spelled in absurd (omega arith)

pub as_constant : (tree : Tree) (from to : List Numbered) → Claimed n_constant tree from to → (TakesBefore always symbols.Item (symbols.Make acts.Item ∷ []) tree) from to
as_constant (a_constant at type declarator init) from to c = c.claim
as_constant tree from to c = let n = number_is tree n_constant from to c.spelled in absurd (omega arith)

pub as_init : (tree : Tree) (from to : List Numbered) → Claimed n_init tree from to → (TakesBefore closes symbols.Init [] tree) from to
as_init (an_init at value parts) from to c = c.claim
as_init tree from to c = let n = number_is tree n_init from to c.spelled in absurd (omega arith)

pub as_function : (tree : Tree) (from to : List Numbered) → Claimed n_function tree from to → (TakesBefore always symbols.Item (symbols.Make acts.Item ∷ []) tree) from to
as_function (a_function at attributes result name params block) from to c = c.claim
as_function tree from to c = let n = number_is tree n_function from to c.spelled in absurd (omega arith)

pub as_result : (tree : Tree) (from to : List Numbered) → Claimed n_result tree from to → (Takes symbols.Result tree) from to
as_result (a_result at type) from to c = c.claim
as_result tree from to c = let n = number_is tree n_result from to c.spelled in absurd (omega arith)

pub as_param : (tree : Tree) (from to : List Numbered) → Claimed n_param tree from to → (TakesBefore ends_param symbols.Param [] tree) from to
as_param (a_param at constant direction type declarator semantic) from to c = c.claim
as_param tree from to c = let n = number_is tree n_param from to c.spelled in absurd (omega arith)

pub as_attribute : (tree : Tree) (from to : List Numbered) → Claimed n_attribute tree from to → (TakesAttribute (at_of tree) tree) from to
as_attribute (an_attribute at name arguments) from to c = c.claim
as_attribute tree from to c = let n = number_is tree n_attribute from to c.spelled in absurd (omega arith)

pub as_block : (tree : Tree) (from to : List Numbered) → Claimed n_block tree from to → (Takes symbols.Block tree) from to
as_block (a_block at statements) from to c = c.claim
as_block tree from to c = let n = number_is tree n_block from to c.spelled in absurd (omega arith)

pub as_stmt : (tree : Tree) (from to : List Numbered) → Claimed n_stmt tree from to → (Takes symbols.Statement tree) from to
as_stmt (a_stmt at part) from to c = c.claim
as_stmt tree from to c = let n = number_is tree n_stmt from to c.spelled in absurd (omega arith)

pub as_local : (tree : Tree) (from to : List Numbered) → Claimed n_local tree from to → (TakesBefore ends_local symbols.Local [] tree) from to
as_local (a_local at constant type starts) from to c = c.claim
as_local tree from to c = let n = number_is tree n_local from to c.spelled in absurd (omega arith)

pub as_start : (tree : Tree) (from to : List Numbered) → Claimed n_start tree from to → (TakesBefore ends_start symbols.Start [] tree) from to
as_start (a_start at declarator init) from to c = c.claim
as_start tree from to c = let n = number_is tree n_start from to c.spelled in absurd (omega arith)

pub as_if : (tree : Tree) (from to : List Numbered) → Claimed n_if tree from to → (TakesBefore always symbols.Statement (symbols.Make acts.Part ∷ []) tree) from to
as_if (an_if at attributes condition consequent alternative) from to c = c.claim
as_if tree from to c = let n = number_is tree n_if from to c.spelled in absurd (omega arith)

pub as_for : (tree : Tree) (from to : List Numbered) → Claimed n_for tree from to → (TakesBefore always symbols.Statement (symbols.Make acts.Part ∷ []) tree) from to
as_for (a_for at attributes first condition step body) from to c = c.claim
as_for tree from to c = let n = number_is tree n_for from to c.spelled in absurd (omega arith)

pub as_while : (tree : Tree) (from to : List Numbered) → Claimed n_while tree from to → (TakesBefore always symbols.Statement (symbols.Make acts.Part ∷ []) tree) from to
as_while (a_while at attributes condition body) from to c = c.claim
as_while tree from to c = let n = number_is tree n_while from to c.spelled in absurd (omega arith)

pub as_do : (tree : Tree) (from to : List Numbered) → Claimed n_do tree from to → (TakesBefore always symbols.Statement (symbols.Make acts.Part ∷ []) tree) from to
as_do (a_do at attributes body condition) from to c = c.claim
as_do tree from to c = let n = number_is tree n_do from to c.spelled in absurd (omega arith)

pub as_jump : (tree : Tree) (from to : List Numbered) → Claimed n_jump tree from to → (TakesBefore ends_local symbols.Statement (symbols.Skip terminals.Semicolon ∷ symbols.Make acts.Part ∷ []) tree) from to
as_jump (a_jump at value) from to c = c.claim
as_jump tree from to c = let n = number_is tree n_jump from to c.spelled in absurd (omega arith)

pub as_args : (tree : Tree) (from to : List Numbered) → Claimed n_args tree from to → (Takes symbols.Args tree) from to
as_args (an_args at arguments) from to c = c.claim
as_args tree from to c = let n = number_is tree n_args from to c.spelled in absurd (omega arith)
