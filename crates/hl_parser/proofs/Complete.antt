-- The machine reads the tokens of every tree, and answers that tree.
use Rattle.std.proofs.Common.{◌≡◌, ◌∙◌, refl, sym, ap, subst, arith, ℕ, suc, inl, inr, None, Some, List, [], ◌∷◌}
use Rattle.hl_lexer.specs.declared.terminal.Terminal.{Terminal}
use Rattle.hl_lexer.specs.declared.terminal.Terminal.TheVariants as terminals
use Rattle.hl_parser.specs.declared.symbol.Symbol.TheVariants as symbols
use Rattle.hl_parser.specs.Grammar.{Commas, Each, ElseIs, FirstIs, InitIs, Lengths, Mark, Numbered, Perhaps, PerhapsListed, Spells, SpellsProgram, Token, n_args, n_attribute, n_basic, n_block, n_choice, n_declarator, n_expr, n_init, n_item, n_kind, n_local, n_member, n_or, n_param, n_postfix, n_program, n_result, n_start, n_stmt, n_struct, n_buffer, n_shared, n_constant, n_function, n_if, n_for, n_while, n_do, n_jump, n_type, n_unary, numbered}
use Rattle.hl_parser.specs.Machine.{kept, run, start, tree_value}
use Rattle.hl_parser.specs.Trees.{Tree, a_program, an_item, a_struct, a_member, a_type, a_basic, a_declarator, a_buffer, a_kind, a_shared, a_constant, an_init, a_function, a_result, a_param, a_direction, an_attribute, a_block, a_stmt, a_local, a_start, an_if, a_for, a_while, a_do, a_jump, an_expr, a_choice, a_binary, a_unary, a_postfix, a_primary, an_args, Trees, no_trees, more_trees, Maybe, absent, present, at_of}
use Rattle.hl_parser.proofs.Claims.{Claim, Claimed, CommasClaimed, EachClaimed, ElseClaimed, FirstClaimed, InitClaimed, LengthsClaimed, PerhapsClaimed, PerhapsListedClaimed, Takes, TakesExpression, TakesProgram}
use Rattle.hl_parser.proofs.Opening.{args_open, basic_token}
use Rattle.hl_parser.proofs.ReadDeclarations.{args_read, basic_type_read, braces_read, buffer_read, constant_read, declarator_read, element_kind_read, member_read, name_type_read, no_args_read, raw_kind_read, shared_read, struct_read, value_read}
use Rattle.hl_parser.proofs.ReadExpressions.{assignment_reads, binary_reads, call_reads, cast_reads, choice_reads, constructor_reads, field_reads, index_reads, method_reads, parentheses_reads, step_reads, unary_reads, word_reads}
use Rattle.hl_parser.proofs.ReadFunctions.{attribute_read, function_read, item_read, param_read, plain_attribute_read, program_read, type_result_read, void_result_read}
use Rattle.hl_parser.proofs.ReadStatements.{block_read, block_statement_read, control_statement_read, do_read, empty_statement_read, expression_statement_read, for_read, if_read, jump_read, jump_statement_read, local_read, local_statement_read, start_read, statements_loop, value_jump_read, while_read}
use Rattle.hl_parser.proofs.Shapes.{number_is}
use Rattle.hl_parser.proofs.StandsAs.{as_args, as_buffer, as_constant, as_do, as_for, as_function, as_if, as_shared, as_struct, as_while}

claimed : (asked : ℕ) (tree : Tree) (from to : List Numbered) → Spells asked tree from to → Claim tree from to → Claimed asked tree from to
claimed asked tree from to h c = record { spelled = h; claim = c }

-- a cast, a constructor and a basic type, where the type is one token

cast_any : (at : ℕ) (basic operand : Tree) (from m n o to : List Numbered) → Token at terminals.OpenParenthesis from m → Spells n_basic basic m n → Mark terminals.CloseParenthesis n o → Claimed n_unary operand o to → TakesExpression (a_unary at (present basic) operand) from to
cast_any at basic operand from m n o to open_mark h close_mark c =
    let token = basic_token basic m n h in
    subst (λ b. TakesExpression (a_unary at (present b) operand) from to) (sym token.1)
    (cast_reads at token.0 operand from m n o to open_mark token.2 close_mark c)

constructor_any : (at : ℕ) (basic arguments : Tree) (from m to : List Numbered) → at ≡ at_of basic → Spells n_basic basic from m → Takes symbols.Args arguments m to → TakesExpression (a_primary at (present basic) (present arguments)) from to
constructor_any at basic arguments from m to e h args =
    let token = basic_token basic from m h in
    subst (λ b. TakesExpression (a_primary at (present b) (present arguments)) from to) (sym token.1)
    (constructor_reads at token.0 arguments from m to (e ∙ ap at_of token.1) token.2 args)

basic_type_any : (at : ℕ) (basic : Tree) (from to : List Numbered) → at ≡ at_of basic → Spells n_basic basic from to → Takes symbols.Type (a_type at (present basic)) from to
basic_type_any at basic from to e h =
    let token = basic_token basic from to h in
    subst (λ b. Takes symbols.Type (a_type at (present b)) from to) (sym token.1)
    (basic_type_read at token.0 from to (e ∙ ap at_of token.1) token.2)

mutual
  reading : (tree : Tree) (asked : ℕ) (from to : List Numbered) → Spells asked tree from to → Claim tree from to
  reading (a_program at no_trees) asked from to h = absurd h
  reading (a_program at (more_trees item items)) asked from to (a, b, (e, (m, h, more))) =
      program_read at item items from m to e (claimed n_item item from m h (reading item n_item from m h)) (reading_each items n_item m to more)
  reading (an_item at item) asked from to (a, b, (e, inl h)) =
      item_read at item from to e (as_struct item from to (claimed n_struct item from to h (reading item n_struct from to h)))
  reading (an_item at item) asked from to (a, b, (e, inr (inl h))) =
      item_read at item from to e (as_buffer item from to (claimed n_buffer item from to h (reading item n_buffer from to h)))
  reading (an_item at item) asked from to (a, b, (e, inr (inr (inl h)))) =
      item_read at item from to e (as_shared item from to (claimed n_shared item from to h (reading item n_shared from to h)))
  reading (an_item at item) asked from to (a, b, (e, inr (inr (inr (inl h))))) =
      item_read at item from to e (as_constant item from to (claimed n_constant item from to h (reading item n_constant from to h)))
  reading (an_item at item) asked from to (a, b, (e, inr (inr (inr (inr h))))) =
      item_read at item from to e (as_function item from to (claimed n_function item from to h (reading item n_function from to h)))
  reading (a_struct at name no_trees) asked from to (a, b, (m, word, (n, named, (o, brace, (p, h, more))))) = absurd h
  reading (a_struct at name (more_trees first others)) asked from to (a, b, (m, word, (n, named, (o, brace, (p, (q, h, more), (r, close_mark, semicolon)))))) =
      struct_read at name first others from m n o q p r to word named brace (claimed n_member first o q h (reading first n_member o q h))
      (reading_each others n_member q p more) close_mark semicolon
  reading (a_member at type no_trees) asked from to (a, b, (e, (m, ht, (n, h, semicolon)))) = absurd h
  reading (a_member at type (more_trees first others)) asked from to (a, b, (e, (m, ht, (n, (o, h, more), semicolon)))) =
      member_read at type first others from m o n to e (claimed n_type type from m ht (reading type n_type from m ht))
      (claimed n_declarator first m o h (reading first n_declarator m o h)) (reading_commas others n_declarator o n more) semicolon
  reading (a_type at (present basic)) asked from to (a, b, (e, h)) = basic_type_any at basic from to e h
  reading (a_type at absent) asked from to (a, b, e) = name_type_read at from to e
  reading (a_basic at) asked from to h = tt
  reading (a_declarator at lengths) asked from to (a, b, (m, e, more)) = declarator_read at lengths from m to e (reading_lengths lengths m to more)
  reading (a_buffer at kind name register space) asked from to (a, b, (e, (m, hk, (n, named, (o, has_register, semicolon))))) =
      buffer_read at kind name register space from m n o to e (claimed n_kind kind from m hk (reading kind n_kind from m hk)) named has_register semicolon
  reading (a_kind at absent) asked from to (a, b, h) = raw_kind_read at from to h
  reading (a_kind at (present element)) asked from to (a, b, (m, word, (n, less, (o, h, greater)))) =
      element_kind_read at element from m n o to word less (claimed n_type element n o h (reading element n_type n o h)) greater
  reading (a_shared at type no_trees) asked from to (a, b, (m, word, (n, ht, (o, h, semicolon)))) = absurd h
  reading (a_shared at type (more_trees first others)) asked from to (a, b, (m, word, (n, ht, (o, (p, h, more), semicolon)))) =
      shared_read at type first others from m n p o to word (claimed n_type type m n ht (reading type n_type m n ht))
      (claimed n_declarator first n p h (reading first n_declarator n p h)) (reading_commas others n_declarator p o more) semicolon
  reading (a_constant at type declarator init) asked from to (a, b, (m, word, (n, constant, (o, ht, (p, hd, (q, equals, (r, hi, semicolon))))))) =
      constant_read at type declarator init from m n o p q r to word constant (claimed n_type type n o ht (reading type n_type n o ht))
      (claimed n_declarator declarator o p hd (reading declarator n_declarator o p hd)) equals
      (claimed n_init init q r hi (reading init n_init q r hi)) semicolon
  reading (an_init at (present value) no_trees) asked from to (a, b, (e, h)) =
      value_read at value from to e (claimed n_expr value from to h (reading value n_expr from to h))
  reading (an_init at (present value) (more_trees part parts)) asked from to h = absurd h
  reading (an_init at absent no_trees) asked from to (a, b, (m, brace, (n, h, braces_end))) = absurd h
  reading (an_init at absent (more_trees first others)) asked from to (a, b, (m, brace, (n, (o, h, more), braces_end))) =
      braces_read at first others from m o n to brace (claimed n_init first m o h (reading first n_init m o h)) (reading_commas others n_init o n more) braces_end
  reading (a_function at attributes result name params block) asked from to (a, b, (e, (m, ha, (n, hr, (o, named, (p, open_mark, (q, hp, (r, close_mark, hb)))))))) =
      function_read at attributes result name params block from m n o p q r to e (reading_each attributes n_attribute from m ha)
      (claimed n_result result m n hr (reading result n_result m n hr)) named open_mark (reading_listed params n_param p q hp) close_mark
      (claimed n_block block r to hb (reading block n_block r to hb))
  reading (a_result at absent) asked from to (a, b, e) = void_result_read at from to e
  reading (a_result at (present type)) asked from to (a, b, (e, h)) =
      type_result_read at type from to e (claimed n_type type from to h (reading type n_type from to h))
  reading (a_param at constant direction type declarator semantic) asked from to (a, b, (e, (m, hc, (n, hd, (o, ht, (p, hn, has_semantic)))))) =
      param_read at constant direction type declarator semantic from m n o p to e hc hd (claimed n_type type n o ht (reading type n_type n o ht))
      (claimed n_declarator declarator o p hn (reading declarator n_declarator o p hn)) has_semantic
  reading (a_direction at) asked from to h = tt
  reading (an_attribute at name no_trees) asked from to (a, b, (m, bracket, (n, named, (o, is_end, close_mark)))) =
      plain_attribute_read at name from m n to bracket named (close_mark.0, is_end ∙ close_mark.1)
  reading (an_attribute at name (more_trees first others)) asked from to (a, b, (m, bracket, (n, named, (r, (o, open_mark, (p, h, (q, more, close_mark))), close_bracket)))) =
      attribute_read at name first others from m n o p q r to bracket named open_mark (claimed n_expr first o p h (reading first n_expr o p h))
      (reading_commas others n_expr p q more) close_mark close_bracket
  reading (a_block at statements) asked from to (a, b, (m, brace, (n, more, close_mark))) =
      block_read at statements from m n to brace (statements_loop statements m n (reading_each statements n_stmt m n more)) close_mark
  reading (a_stmt at absent) asked from to (a, b, e) = empty_statement_read at from to e
  reading (a_stmt at (present part)) asked from to (a, b, (e, inl h)) =
      block_statement_read at part from to e (claimed n_block part from to h (reading part n_block from to h))
  reading (a_stmt at (present part)) asked from to (a, b, (e, inr (inl (m, h, semicolon)))) =
      local_statement_read at part from m to e (claimed n_local part from m h (reading part n_local from m h)) semicolon
  reading (a_stmt at (present part)) asked from to (a, b, (e, inr (inr (inl (m, h, semicolon))))) =
      expression_statement_read at part from m to e (claimed n_expr part from m h (reading part n_expr from m h)) semicolon
  reading (a_stmt at (present part)) asked from to (a, b, (e, inr (inr (inr (inl h))))) =
      control_statement_read at part from to e (as_if part from to (claimed n_if part from to h (reading part n_if from to h)))
  reading (a_stmt at (present part)) asked from to (a, b, (e, inr (inr (inr (inr (inl h)))))) =
      control_statement_read at part from to e (as_for part from to (claimed n_for part from to h (reading part n_for from to h)))
  reading (a_stmt at (present part)) asked from to (a, b, (e, inr (inr (inr (inr (inr (inl h))))))) =
      control_statement_read at part from to e (as_while part from to (claimed n_while part from to h (reading part n_while from to h)))
  reading (a_stmt at (present part)) asked from to (a, b, (e, inr (inr (inr (inr (inr (inr (inl h)))))))) =
      control_statement_read at part from to e (as_do part from to (claimed n_do part from to h (reading part n_do from to h)))
  reading (a_stmt at (present part)) asked from to (a, b, (e, inr (inr (inr (inr (inr (inr (inr (m, h, semicolon))))))))) =
      jump_statement_read at part from m to e (claimed n_jump part from m h (reading part n_jump from m h)) semicolon
  reading (a_local at constant type no_trees) asked from to (a, b, (e, (m, hc, (n, ht, h)))) = absurd h
  reading (a_local at constant type (more_trees first others)) asked from to (a, b, (e, (m, hc, (n, ht, (o, h, more))))) =
      local_read at constant type first others from m n o to e hc (claimed n_type type m n ht (reading type n_type m n ht))
      (claimed n_start first n o h (reading first n_start n o h)) (reading_commas others n_start o to more)
  reading (a_start at declarator init) asked from to (a, b, (e, (m, hd, hi))) =
      start_read at declarator init from m to e (claimed n_declarator declarator from m hd (reading declarator n_declarator from m hd)) (reading_init init m to hi)
  reading (an_if at attributes condition consequent alternative) asked from to (a, b, (n, (index, e, (m, ha, word)), (o, open_mark, (p, hc, (q, close_mark, (r, hs, he)))))) =
      if_read at attributes index condition consequent alternative from m n o p q r to e (reading_each attributes n_attribute from m ha) word open_mark
      (claimed n_expr condition o p hc (reading condition n_expr o p hc)) close_mark
      (claimed n_stmt consequent q r hs (reading consequent n_stmt q r hs)) (reading_else alternative r to he)
  reading (a_for at attributes first condition step body) asked from to (a, b, (n, (index, e, (m, ha, word)), (o, open_mark, (p, hf, (q, semicolon, (r, hc, (s, second_semicolon, (t, hs, (u, close_mark, hb))))))))) =
      for_read at attributes index first condition step body from m n o p q r s t to e (reading_each attributes n_attribute from m ha) word open_mark
      (reading_first first o p hf) semicolon (reading_perhaps condition n_expr q r hc) second_semicolon u (reading_perhaps step n_expr s t hs) close_mark
      (claimed n_stmt body u to hb (reading body n_stmt u to hb))
  reading (a_while at attributes condition body) asked from to (a, b, (n, (index, e, (m, ha, word)), (o, open_mark, (p, hc, (q, close_mark, hb))))) =
      while_read at attributes index condition body from m n o p q to e (reading_each attributes n_attribute from m ha) word open_mark
      (claimed n_expr condition o p hc (reading condition n_expr o p hc)) close_mark (claimed n_stmt body q to hb (reading body n_stmt q to hb))
  reading (a_do at attributes body condition) asked from to (a, b, (n, (index, e, (m, ha, word)), (o, hb, (p, while_word, (q, open_mark, (r, hc, (s, close_mark, semicolon))))))) =
      do_read at attributes index body condition from m n o p q r s to e (reading_each attributes n_attribute from m ha) word
      (claimed n_stmt body n o hb (reading body n_stmt n o hb)) while_word open_mark
      (claimed n_expr condition q r hc (reading condition n_expr q r hc)) close_mark semicolon
  reading (a_jump at absent) asked from to (a, b, h) = jump_read at from to h
  reading (a_jump at (present value)) asked from to (a, b, (m, word, h)) =
      value_jump_read at value from m to word (claimed n_expr value m to h (reading value n_expr m to h))
  reading (an_expr at left mark right) asked from to (a, b, (e, (m, hl, (n, hm, hr)))) =
      assignment_reads at left mark right from m n to e (claimed n_choice left from m hl (reading left n_choice from m hl)) hm
      (claimed n_expr right n to hr (reading right n_expr n to hr))
  reading (a_choice at condition consequent alternative) asked from to (a, b, (e, (m, hc, (n, question, (o, hs, (p, colon, ha)))))) =
      choice_reads at condition consequent alternative from m n o p to e (claimed n_or condition from m hc (reading condition n_or from m hc)) question
      (claimed n_expr consequent n o hs (reading consequent n_expr n o hs)) colon (claimed n_choice alternative p to ha (reading alternative n_choice p to ha))
  reading (a_binary production at left mark right) asked from to (low, high, (a, b, (e, (m, hl, (n, hm, hr))))) =
      binary_reads production at left mark right from m n to low high e (claimed production left from m hl (reading left production from m hl)) hm
      (claimed (suc production) right n to hr (reading right (suc production) n to hr))
  reading (a_unary at absent operand) asked from to (a, b, (m, word, h)) =
      unary_reads at operand from m to word (claimed n_unary operand m to h (reading operand n_unary m to h))
  reading (a_unary at (present basic) operand) asked from to (a, b, (m, open_mark, (n, hb, (o, close_mark, h)))) =
      cast_any at basic operand from m n o to open_mark hb close_mark (claimed n_unary operand o to h (reading operand n_unary o to h))
  reading (a_postfix at operand mark (Some name) absent) asked from to (a, b, (e, (m, h, (n, dot, named)))) =
      field_reads at operand mark name from m n to e (claimed n_postfix operand from m h (reading operand n_postfix from m h)) dot named
  reading (a_postfix at operand mark (Some name) (present arguments)) asked from to (a, b, (e, (m, h, (n, dot, (o, named, ha))))) =
      method_reads at operand mark name arguments from m n o to e (claimed n_postfix operand from m h (reading operand n_postfix from m h)) dot named
      (args_open arguments o to ha) (as_args arguments o to (claimed n_args arguments o to ha (reading arguments n_args o to ha)))
  reading (a_postfix at operand mark None (present index)) asked from to (a, b, (e, (m, h, (n, bracket, (o, hi, close_mark))))) =
      index_reads at operand mark index from m n o to e (claimed n_postfix operand from m h (reading operand n_postfix from m h)) bracket
      (claimed n_expr index n o hi (reading index n_expr n o hi)) close_mark
  reading (a_postfix at operand mark None absent) asked from to (a, b, (e, (m, h, word))) =
      step_reads at operand mark from m to e (claimed n_postfix operand from m h (reading operand n_postfix from m h)) word
  reading (a_primary at absent absent) asked from to (a, b, h) = word_reads at from to h
  reading (a_primary at absent (present arguments)) asked from to (a, b, (m, e, h)) =
      call_reads at arguments from m to e (args_open arguments m to h) (as_args arguments m to (claimed n_args arguments m to h (reading arguments n_args m to h)))
  reading (a_primary at (present basic) (present arguments)) asked from to (a, b, (e, (m, hb, h))) =
      constructor_any at basic arguments from m to e hb (as_args arguments m to (claimed n_args arguments m to h (reading arguments n_args m to h)))
  reading (a_primary at (present inner) absent) asked from to (a, b, (m, open_mark, (n, h, close_mark))) =
      parentheses_reads at inner from m n to open_mark (claimed n_expr inner m n h (reading inner n_expr m n h)) close_mark
  reading (an_args at no_trees) asked from to (a, b, (m, open_mark, (n, is_end, close_mark))) =
      no_args_read at from m to open_mark (close_mark.0, is_end ∙ close_mark.1)
  reading (an_args at (more_trees first others)) asked from to (a, b, (m, open_mark, (n, (o, h, more), close_mark))) =
      args_read at first others from m o n to open_mark (claimed n_expr first m o h (reading first n_expr m o h)) (reading_commas others n_expr o n more) close_mark

  reading_each : (trees : Trees) (asked : ℕ) (from to : List Numbered) → Each asked trees from to → EachClaimed asked trees from to
  reading_each no_trees asked from to h = h
  reading_each (more_trees first rest) asked from to (m, h, more) =
      (m, claimed asked first from m h (reading first asked from m h), reading_each rest asked m to more)

  reading_commas : (trees : Trees) (asked : ℕ) (from to : List Numbered) → Commas asked trees from to → CommasClaimed asked trees from to
  reading_commas no_trees asked from to h = h
  reading_commas (more_trees first rest) asked from to (m, comma, (n, h, more)) =
      (m, comma, (n, claimed asked first m n h (reading first asked m n h), reading_commas rest asked n to more))

  reading_listed : (trees : Trees) (asked : ℕ) (from to : List Numbered) → PerhapsListed asked trees from to → PerhapsListedClaimed asked trees from to
  reading_listed no_trees asked from to h = h
  reading_listed (more_trees first rest) asked from to (m, h, more) =
      (m, claimed asked first from m h (reading first asked from m h), reading_commas rest asked m to more)

  reading_lengths : (trees : Trees) (from to : List Numbered) → Lengths trees from to → LengthsClaimed trees from to
  reading_lengths no_trees from to h = h
  reading_lengths (more_trees first rest) from to (m, bracket, (n, h, (o, close_mark, more))) =
      (m, bracket, (n, claimed n_expr first m n h (reading first n_expr m n h), (o, close_mark, reading_lengths rest o to more)))

  reading_perhaps : (maybe : Maybe) (asked : ℕ) (from to : List Numbered) → Perhaps asked maybe from to → PerhapsClaimed asked maybe from to
  reading_perhaps absent asked from to h = h
  reading_perhaps (present tree) asked from to h = claimed asked tree from to h (reading tree asked from to h)

  reading_init : (maybe : Maybe) (from to : List Numbered) → InitIs maybe from to → InitClaimed maybe from to
  reading_init absent from to h = h
  reading_init (present tree) from to (m, equals, h) = (m, equals, claimed n_init tree m to h (reading tree n_init m to h))

  reading_first : (maybe : Maybe) (from to : List Numbered) → FirstIs maybe from to → FirstClaimed maybe from to
  reading_first absent from to h = h
  reading_first (present tree) from to (inl h) = inl (claimed n_local tree from to h (reading tree n_local from to h))
  reading_first (present tree) from to (inr h) = inr (claimed n_expr tree from to h (reading tree n_expr from to h))

  reading_else : (maybe : Maybe) (from to : List Numbered) → ElseIs maybe from to → ElseClaimed maybe from to
  reading_else absent from to h = h
  reading_else (present tree) from to (m, word, h) = (m, word, claimed n_stmt tree m to h (reading tree n_stmt m to h))

-- the machine answers the tree of a program
takes_program : (tree : Tree) (from to : List Numbered) → Spells n_program tree from to → Claim tree from to → TakesProgram tree from to
takes_program (a_program at items) from to h c = c
takes_program tree from to h c = let n = number_is tree n_program from to h in absurd (omega arith)

pub complete : (tokens : List Terminal) (tree : Tree) → SpellsProgram tokens tree → run start (kept []) (numbered 0 tokens) ≡ Some (kept (tree_value tree ∷ []))
unfolding run
complete tokens tree h =
    (takes_program tree (numbered 0 tokens) [] h (reading tree n_program (numbered 0 tokens) [] h) (Some (kept (tree_value tree ∷ []))) refl (record { is_run = refl })).is_run

-- tokens spell at most one tree
pub at_most_one_tree : (tokens : List Terminal) (tree other : Tree) → SpellsProgram tokens tree → SpellsProgram tokens other → tree ≡ other
at_most_one_tree tokens tree other h g =
    let one = complete tokens tree h in
    let two = complete tokens other g in
    let same : Some (kept (tree_value tree ∷ [])) ≡ Some (kept (tree_value other ∷ [])) = sym one ∙ two in
    cc
