-- Every stack of symbols has a word that completes it, so what is read so far begins a program.
use Rattle.std.proofs.Common.{◌≡◌, ◌∙◌, refl, sym, ap, subst, ℕ, suc, ◌+◌, ◌≤◌, inl, inr, None, List, [], ◌∷◌, ◌++◌, length, arith}
use Rattle.hl_lexer.specs.declared.terminal.Terminal.{Terminal}
use Rattle.hl_lexer.specs.declared.terminal.Terminal.TheVariants as terminals
use Rattle.hl_parser.specs.declared.symbol.Symbol.{Symbol}
use Rattle.hl_parser.specs.declared.symbol.Symbol.TheVariants as symbols
use Rattle.hl_parser.specs.Grammar.{Numbered, Spells, n_declarator, n_expr, n_start, n_stmt, n_type, n_unary, nth, numbered}
use Rattle.hl_parser.specs.Trees.{a_basic, a_block, a_buffer, a_declarator, a_do, a_kind, a_local, a_member, a_param, a_primary, a_result, a_start, a_stmt, a_type, an_args, an_init, an_item, no_trees, more_trees, absent, present}
use Rattle.hl_parser.specs.Grammar.{first_among}
use Rattle.hl_parser.proofs.Soundness.{less, stands_for}
use Rattle.hl_parser.proofs.Words.{Word, Words, words_cons}

-- tokens with their indices from an index on, in front of others
abbrev pub in_front : ℕ → List Terminal → List Numbered → List Numbered
in_front i [] rest = rest
in_front i (t ∷ ts) rest = nth i t ∷ in_front (suc i) ts rest

pub record Completes (s : Symbol) : Type 0 where
  pub word : List Terminal
  pub is_word : (i : ℕ) (rest : List Numbered) → Word s (in_front i word rest) rest

number_tree : (i k : ℕ) (rest : List Numbered) → n_expr ≤ k → k ≤ n_unary → Spells k (a_primary i absent absent) (nth i terminals.Number ∷ rest) rest
number_tree i k rest low high =
    let bounds = less 42 k 42 low (omega arith) (omega arith) (omega arith) (omega arith) in
    (bounds.0, bounds.1, (terminals.Number, refl, refl))

int_tree : (i : ℕ) (rest : List Numbered) → Spells n_type (a_type i (present (a_basic i))) (nth i terminals.Int ∷ rest) rest
int_tree i rest = (omega arith, omega arith, (refl, (omega arith, omega arith, (terminals.Int, refl, refl))))

name_tree : (i : ℕ) (rest : List Numbered) → Spells n_declarator (a_declarator i no_trees) (nth i terminals.Name ∷ rest) rest
name_tree i rest = (omega arith, omega arith, (rest, refl, refl))

start_tree : (i : ℕ) (rest : List Numbered) → Spells n_start (a_start i (a_declarator i no_trees) absent) (nth i terminals.Name ∷ rest) rest
start_tree i rest = (omega arith, omega arith, (refl, (rest, name_tree i rest, refl)))

nothing_tree : (i : ℕ) (rest : List Numbered) → Spells n_stmt (a_stmt i absent) (nth i terminals.Semicolon ∷ rest) rest
nothing_tree i rest = (omega arith, omega arith, refl)

pub completes : (s : Symbol) → Completes s
completes (symbols.Make act) = record { word = []; is_word = λ i rest. refl }
completes (symbols.Skip t) = record { word = t ∷ []; is_word = λ i rest. (i, refl) }
completes symbols.Name = record { word = terminals.Name ∷ []; is_word = λ i rest. (i, refl) }
completes symbols.Item = record {
  word = terminals.ByteAddressBuffer ∷ terminals.Name ∷ terminals.Semicolon ∷ [];
  is_word = λ i rest. (
    an_item i (a_buffer i (a_kind i absent) (suc i) None None),
    (
      omega arith,
      omega arith,
      (
        refl,
        inr (inl (
          omega arith,
          omega arith,
          (
            refl,
            (
              nth (suc i) terminals.Name ∷ nth (suc (suc i)) terminals.Semicolon ∷ rest,
              (omega arith, omega arith, (terminals.ByteAddressBuffer, refl, refl)),
              (
                nth (suc (suc i)) terminals.Semicolon ∷ rest,
                refl,
                (nth (suc (suc i)) terminals.Semicolon ∷ rest, refl, (suc (suc i), refl)),
              ),
            ),
          ),
        )),
      ),
    ),
  );
}
completes symbols.Items = record { word = []; is_word = λ i rest. (no_trees, refl) }
completes symbols.Members = record { word = []; is_word = λ i rest. (no_trees, refl) }
completes symbols.Member = record {
  word = terminals.Int ∷ terminals.Name ∷ terminals.Semicolon ∷ [];
  is_word = λ i rest. (
    a_member i (a_type i (present (a_basic i))) (more_trees (a_declarator (suc i) no_trees) no_trees),
    (
      omega arith,
      omega arith,
      (
        refl,
        (
          nth (suc i) terminals.Name ∷ nth (suc (suc i)) terminals.Semicolon ∷ rest,
          int_tree i (nth (suc i) terminals.Name ∷ nth (suc (suc i)) terminals.Semicolon ∷ rest),
          (nth (suc (suc i)) terminals.Semicolon ∷ rest, (nth (suc (suc i)) terminals.Semicolon ∷ rest, name_tree (suc i) (nth (suc (suc i)) terminals.Semicolon ∷ rest), refl), (suc (suc i), refl)),
        ),
      ),
    ),
  );
}
completes symbols.Type = record { word = terminals.Int ∷ []; is_word = λ i rest. (a_type i (present (a_basic i)), int_tree i rest) }
completes symbols.Declarator = record { word = terminals.Name ∷ []; is_word = λ i rest. (a_declarator i no_trees, name_tree i rest) }
completes symbols.Declarators = record { word = []; is_word = λ i rest. (no_trees, refl) }
completes symbols.Lengths = record { word = []; is_word = λ i rest. (no_trees, refl) }
completes symbols.Register = record { word = []; is_word = λ i rest. (None, None, refl) }
completes symbols.Space = record { word = []; is_word = λ i rest. (None, refl) }
completes symbols.Init = record {
  word = terminals.Number ∷ [];
  is_word = λ i rest. (an_init i (present (a_primary i absent absent)) no_trees, (omega arith, omega arith, (refl, number_tree i n_expr rest (omega arith) (omega arith))));
}
completes symbols.Inits = record { word = terminals.CloseBrace ∷ []; is_word = λ i rest. (no_trees, (nth i terminals.CloseBrace ∷ rest, refl, inl (i, refl))) }
completes symbols.Result = record { word = terminals.Void ∷ []; is_word = λ i rest. (a_result i absent, (omega arith, omega arith, refl)) }
completes symbols.Params = record { word = terminals.CloseParenthesis ∷ []; is_word = λ i rest. (no_trees, (nth i terminals.CloseParenthesis ∷ rest, refl, (i, refl))) }
completes symbols.Param = record {
  word = terminals.Int ∷ terminals.Name ∷ [];
  is_word = λ i rest. (
    a_param i None absent (a_type i (present (a_basic i))) (a_declarator (suc i) no_trees) None,
    (
      omega arith,
      omega arith,
      (
        refl,
        (
          nth i terminals.Int ∷ nth (suc i) terminals.Name ∷ rest,
          refl,
          (
            nth i terminals.Int ∷ nth (suc i) terminals.Name ∷ rest,
            refl,
            (nth (suc i) terminals.Name ∷ rest, int_tree i (nth (suc i) terminals.Name ∷ rest), (rest, name_tree (suc i) rest, refl)),
          ),
        ),
      ),
    ),
  );
}
completes symbols.MoreParams = record { word = []; is_word = λ i rest. (no_trees, refl) }
completes symbols.Direction = record { word = []; is_word = λ i rest. (absent, refl) }
completes symbols.Semantic = record { word = []; is_word = λ i rest. (None, refl) }
completes symbols.AttributeArguments = record { word = []; is_word = λ i rest. (no_trees, refl) }
completes symbols.Attributes = record { word = []; is_word = λ i rest. (no_trees, refl) }
completes symbols.Attributed = record {
  word = terminals.Do ∷ terminals.Semicolon ∷ terminals.While ∷ terminals.OpenParenthesis ∷ terminals.Number ∷ terminals.CloseParenthesis ∷ terminals.Semicolon ∷ [];
  is_word = λ i rest attributes before h.
      let close_mark = nth (suc (suc (suc (suc (suc i))))) terminals.CloseParenthesis ∷ nth (suc (suc (suc (suc (suc (suc i)))))) terminals.Semicolon ∷ rest in
      let head = nth (suc (suc (suc i))) terminals.OpenParenthesis ∷ nth (suc (suc (suc (suc i)))) terminals.Number ∷ close_mark in
      let behind = nth (suc (suc i)) terminals.While ∷ head in
      let body = nth (suc i) terminals.Semicolon ∷ behind in (
        a_do (first_among attributes i) attributes (a_stmt (suc i) absent) (a_primary (suc (suc (suc (suc i)))) absent absent),
        inr (inr (inr (
          omega arith,
          omega arith,
          (
            body,
            (i, refl, (nth i terminals.Do ∷ body, h, refl)),
            (
              behind,
              nothing_tree (suc i) behind,
              (
                head,
                (suc (suc i), refl),
                (
                  nth (suc (suc (suc (suc i)))) terminals.Number ∷ close_mark,
                  (suc (suc (suc i)), refl),
                  (
                    close_mark,
                    number_tree (suc (suc (suc (suc i)))) n_expr close_mark (omega arith) (omega arith),
                    (nth (suc (suc (suc (suc (suc (suc i)))))) terminals.Semicolon ∷ rest, (suc (suc (suc (suc (suc i)))), refl), (suc (suc (suc (suc (suc (suc i))))), refl)),
                  ),
                ),
              ),
            ),
          ),
        ))),
      );
}
completes symbols.Block = record {
  word = terminals.OpenBrace ∷ terminals.CloseBrace ∷ [];
  is_word = λ i rest. (a_block i no_trees, (omega arith, omega arith, (nth (suc i) terminals.CloseBrace ∷ rest, refl, (nth (suc i) terminals.CloseBrace ∷ rest, refl, (suc i, refl)))));
}
completes symbols.Statement = record { word = terminals.Semicolon ∷ []; is_word = λ i rest. (a_stmt i absent, nothing_tree i rest) }
completes symbols.Statements = record { word = []; is_word = λ i rest. (no_trees, refl) }
completes symbols.Local = record {
  word = terminals.Int ∷ terminals.Name ∷ [];
  is_word = λ i rest. (
    a_local i None (a_type i (present (a_basic i))) (more_trees (a_start (suc i) (a_declarator (suc i) no_trees) absent) no_trees),
    (
      omega arith,
      omega arith,
      (
        refl,
        (
          nth i terminals.Int ∷ nth (suc i) terminals.Name ∷ rest,
          refl,
          (nth (suc i) terminals.Name ∷ rest, int_tree i (nth (suc i) terminals.Name ∷ rest), (rest, start_tree (suc i) rest, refl)),
        ),
      ),
    ),
  );
}
completes symbols.Start = record { word = terminals.Name ∷ []; is_word = λ i rest. (a_start i (a_declarator i no_trees) absent, start_tree i rest) }
completes symbols.Starts = record { word = []; is_word = λ i rest. (no_trees, refl) }
completes symbols.StartInit = record { word = []; is_word = λ i rest. (absent, refl) }
completes symbols.Else = record {
  word = terminals.Else ∷ terminals.Semicolon ∷ [];
  is_word = λ i rest. (present (a_stmt (suc i) absent), (nth (suc i) terminals.Semicolon ∷ rest, (i, refl), nothing_tree (suc i) rest));
}
completes symbols.First = record { word = []; is_word = λ i rest. (absent, refl) }
completes symbols.Optional = record { word = []; is_word = λ i rest. (absent, refl) }
completes (symbols.Operand k) = record { word = terminals.Number ∷ []; is_word = λ i rest low high. (a_primary i absent absent, number_tree i k rest low high) }
completes (symbols.Parenthesis k) = record {
  word = terminals.Number ∷ terminals.CloseParenthesis ∷ [];
  is_word = λ i rest low high index before e.
      let bounds = less 42 k 42 low (omega arith) (omega arith) (omega arith) (omega arith) in (
        a_primary index (present (a_primary i absent absent)) absent,
        (
          bounds.0,
          bounds.1,
          (
            nth i terminals.Number ∷ nth (suc i) terminals.CloseParenthesis ∷ rest,
            e,
            (nth (suc i) terminals.CloseParenthesis ∷ rest, number_tree i n_expr (nth (suc i) terminals.CloseParenthesis ∷ rest) (omega arith) (omega arith), (suc i, refl)),
          ),
        ),
      );
}
completes (symbols.Tail production k) = record {
  word = [];
  is_word = λ i rest low high between top left before h. (left, stands_for left production k before rest low between top h);
}
completes symbols.MethodArguments = record { word = []; is_word = λ i rest. (absent, refl) }
completes symbols.Args = record {
  word = terminals.OpenParenthesis ∷ terminals.CloseParenthesis ∷ [];
  is_word = λ i rest. (an_args i no_trees, (omega arith, omega arith, (nth (suc i) terminals.CloseParenthesis ∷ rest, refl, (nth (suc i) terminals.CloseParenthesis ∷ rest, refl, (suc i, refl)))));
}
completes symbols.ArgList = record { word = terminals.CloseParenthesis ∷ []; is_word = λ i rest. (no_trees, (nth i terminals.CloseParenthesis ∷ rest, refl, (i, refl))) }
completes symbols.Expressions = record { word = []; is_word = λ i rest. (no_trees, refl) }

-- the same of many symbols

in_front-append : (i : ℕ) (xs ys : List Terminal) → numbered i (xs ++ ys) ≡ in_front i xs (numbered (length xs + i) ys)
in_front-append i [] ys = ap (λ n. numbered n ys) (zero_plus i)
  where
    zero_plus : (i : ℕ) → i ≡ 0 + i
    zero_plus i = omega arith
in_front-append i (x ∷ xs) ys =
    ap (λ ts. nth i x ∷ ts) (in_front-append (suc i) xs ys ∙ ap (λ n. in_front (suc i) xs (numbered n ys)) (moved (length xs) i))
  where
    moved : (n i : ℕ) → n + suc i ≡ suc n + i
    moved n i = omega arith

pub record CompletesAll (K : List Symbol) : Type 0 where
  pub word : List Terminal
  pub are_words : (i : ℕ) → Words K (numbered i word) []

pub completes_all : (K : List Symbol) → CompletesAll K
completes_all [] = record { word = []; are_words = λ i. refl }
completes_all (s ∷ K) =
    let one = completes s in
    let all = completes_all K in
    record {
      word = one.word ++ all.word;
      are_words = λ i.
          subst (λ ts. Words (s ∷ K) ts []) (sym (in_front-append i one.word all.word))
          (words_cons s K (in_front i one.word (numbered (length one.word + i) all.word)) (numbered (length one.word + i) all.word) []
          (one.is_word i (numbered (length one.word + i) all.word)) (all.are_words (length one.word + i)));
    }
