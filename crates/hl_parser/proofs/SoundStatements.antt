-- The moves on statements are sound, and so is every move.
use Rattle.std.proofs.Common.{◌≡◌, ◌≢◌, ◌∙◌, refl, sym, ap, ℕ, true, false, if◌then◌else◌, inl, inr, None, Some, List, [], ◌∷◌, ◌++◌, arith}
use Rattle.hl_lexer.specs.declared.terminal.Terminal.{Terminal}
use Rattle.hl_lexer.specs.declared.terminal.Terminal.TheVariants as terminals
use Rattle.hl_parser.specs.declared.act.Act.TheVariants as acts
use Rattle.hl_parser.specs.declared.symbol.Symbol.{Symbol}
use Rattle.hl_parser.specs.declared.symbol.Symbol.TheVariants as symbols
use Rattle.hl_parser.specs.Codes.{is}
use Rattle.hl_parser.specs.Grammar.{Commas, Each, ElseIs, FirstIs, InitIs, Mark, Numbered, Perhaps, PerhapsListed, Spells, Step, first_among, is_jump, n_block, n_declarator, n_do, n_expr, n_for, n_if, n_jump, n_local, n_start, n_stmt, n_type, n_while, nth, ◌or◌, ◌then◌}
use Rattle.hl_parser.specs.Machine.{begins_expression, begins_local, begins_statement, begins_type, is_control, move_of, on_arg_list, on_attributed, on_block, on_declarator, on_else, on_first, on_local, on_operand, on_optional, on_start, on_start_init, on_starts, on_statement, on_statements, on_type, rest_of_attribute}
use Rattle.hl_parser.specs.Trees.{Tree, a_block, a_stmt, a_local, a_start, an_if, a_for, a_while, a_do, a_jump, no_trees, more_trees, absent, present, at_of}
use Rattle.hl_parser.proofs.Moves.{operand_never}
use Rattle.hl_parser.proofs.Words.{AttributedWord, Control, OperandWord, SomeMaybe, SomeTrees, Sound, Spelled, Word, Words, sound_as, sound_followed, sound_if, sound_is, sound_led, sound_only, sound_reads, sound_yields}
use Rattle.hl_parser.proofs.ReadStatements.{local_never}
use Rattle.hl_parser.proofs.Soundness.{end_at, sound_args, sound_declarator, sound_declarators, sound_expressions, sound_lengths, sound_member, sound_members, sound_method_arguments, sound_operand, sound_parenthesis, sound_tail, sound_type}
use Rattle.hl_parser.proofs.SoundDeclarations.{attributes_parts, sound_attribute_arguments, sound_attributes, sound_direction, sound_init, sound_inits, sound_item, sound_items, sound_more_params, sound_param, sound_params, sound_register, sound_result, sound_semantic, sound_space}

-- ---- locals

start_row : (from m to : List Numbered) → Spelled n_declarator from m → Words (symbols.StartInit ∷ symbols.Make acts.Start ∷ []) m to → Spelled n_start from to
start_row from m to (declarator, hd) (n, (init, hi), e) =
    end_at (Spelled n_start) e (a_start (at_of declarator) declarator init, (omega arith, omega arith, (refl, (m, hd, hi))))

sound_start : (t : Terminal) → Sound (Spelled n_start) t (on_start t)
sound_start t = sound_followed (on_declarator t) _ (sound_declarator t) start_row

starts_row : (i : ℕ) (m to : List Numbered) → Words (symbols.Start ∷ symbols.Make acts.Append ∷ symbols.Starts ∷ []) m to → SomeTrees (Commas n_start) (nth i terminals.Comma ∷ m) to
starts_row i m to (n, (first, hf), (o, (others, ho), e)) =
    end_at (SomeTrees (Commas n_start)) e (more_trees first others, (m, (i, refl), (n, hf, ho)))

sound_starts : (t : Terminal) → Sound (SomeTrees (Commas n_start)) t (on_starts t)
sound_starts t = sound_is t terminals.Comma (sound_reads starts_row) (λ _. sound_yields (λ ts e. (no_trees, refl)))

start_init_row : (i : ℕ) (m to : List Numbered) → Words (symbols.Init ∷ []) m to → SomeMaybe InitIs (nth i terminals.Equals ∷ m) to
start_init_row i m to (n, (init, hi), e) = end_at (SomeMaybe InitIs) e (present init, (m, (i, refl), hi))

sound_start_init : (t : Terminal) → Sound (SomeMaybe InitIs) t (on_start_init t)
sound_start_init t = sound_is t terminals.Equals (sound_reads start_init_row) (λ _. sound_yields (λ ts e. (absent, refl)))

const_local_row : (i : ℕ) (m to : List Numbered) → Words (symbols.Type ∷ symbols.Make acts.Empty ∷ symbols.Start ∷ symbols.Make acts.Append ∷ symbols.Starts ∷ symbols.Make acts.Local ∷ []) m to → Spelled n_local (nth i terminals.Const ∷ m) to
const_local_row i m to (n, (type, ht), (o, (first, hf), (p, (others, ho), e))) =
    end_at (Spelled n_local) e
    (a_local i (Some i) type (more_trees first others), (omega arith, omega arith, (refl, (m, refl, (n, ht, (o, hf, ho))))))

type_local_row : (from m to : List Numbered) → Spelled n_type from m → Words (symbols.Make acts.Empty ∷ symbols.Start ∷ symbols.Make acts.Append ∷ symbols.Starts ∷ symbols.Make acts.Local ∷ []) m to → Spelled n_local from to
type_local_row from m to (type, ht) (o, (first, hf), (p, (others, ho), e)) =
    end_at (Spelled n_local) e
    (a_local (at_of type) None type (more_trees first others), (omega arith, omega arith, (refl, (from, refl, (m, ht, (o, hf, ho))))))

sound_local : (t : Terminal) → Sound (Spelled n_local) t (on_local t)
sound_local t =
    sound_if (begins_type t) _ _ (λ _. sound_led (acts.Absent ∷ []) _ (sound_followed (on_type t) _ (sound_type t) type_local_row))
    (λ _. sound_only t terminals.Const (sound_reads const_local_row))

-- ---- blocks, an `if` and loops

block_row : (i : ℕ) (m to : List Numbered) → Words (symbols.Make acts.Empty ∷ symbols.Statements ∷ symbols.Skip terminals.CloseBrace ∷ symbols.Make acts.Block ∷ []) m to → Spelled n_block (nth i terminals.OpenBrace ∷ m) to
block_row i m to (n, (statements, hs), (o, close_mark, e)) =
    end_at (Spelled n_block) e (a_block i statements, (omega arith, omega arith, (m, refl, (n, hs, close_mark))))

sound_block : (t : Terminal) → Sound (Spelled n_block) t (on_block t)
sound_block t = sound_only t terminals.OpenBrace (sound_reads block_row)

else_row : (i : ℕ) (m to : List Numbered) → Words (symbols.Statement ∷ []) m to → SomeMaybe ElseIs (nth i terminals.Else ∷ m) to
else_row i m to (n, (statement, hs), e) = end_at (SomeMaybe ElseIs) e (present statement, (m, (i, refl), hs))

no_else : (t : Terminal) → is t terminals.Else ≡ false → t ≢ terminals.Else
no_else t e h = absurd (true_is_no_false (sym (ap (λ x. is x terminals.Else) h) ∙ e))
  where
    true_is_no_false : true ≡ false → ⊥
    true_is_no_false e = cc

sound_else : (t : Terminal) → Sound (SomeMaybe ElseIs) t (on_else t)
sound_else t =
    sound_is t terminals.Else (sound_reads else_row)
    (λ c. sound_yields (λ ts e. (absent, (refl, λ h. no_else t c (sym e ∙ h)))))

if_row : (i : ℕ) (m to : List Numbered) → Words (symbols.Skip terminals.OpenParenthesis ∷ symbols.Operand 27 ∷ symbols.Skip terminals.CloseParenthesis ∷ symbols.Statement ∷ symbols.Else ∷ symbols.Make acts.If ∷ []) m to → AttributedWord (nth i terminals.If ∷ m) to
if_row i m to (n, open_mark, (o, h, (p, close_mark, (q, (consequent, hs), (r, (alternative, ha), e))))) attributes before hb =
    let condition = h (omega arith) (omega arith) in
    end_at (λ f l. (tree : Tree) × Control tree f l) e (
      an_if (first_among attributes i) attributes condition.0 consequent alternative,
      inl (omega arith, omega arith, (m, (i, refl, (nth i terminals.If ∷ m, hb, refl)), (n, open_mark, (o, condition.1, (p, close_mark, (q, hs, ha)))))),
    )

for_row : (i : ℕ) (m to : List Numbered) → Words (symbols.Skip terminals.OpenParenthesis ∷ symbols.First ∷ symbols.Skip terminals.Semicolon ∷ symbols.Optional ∷ symbols.Skip terminals.Semicolon ∷ symbols.Optional ∷ symbols.Skip terminals.CloseParenthesis ∷ symbols.Statement ∷ symbols.Make acts.For ∷ []) m to → AttributedWord (nth i terminals.For ∷ m) to
for_row i m to (n, open_mark, (o, (first, hf), (p, semicolon, (q, (condition, hc), (r, second_semicolon, (s, (step, hs), (t, close_mark, (u, (body, ho), e)))))))) attributes before hb =
    end_at (λ f l. (tree : Tree) × Control tree f l) e (
      a_for (first_among attributes i) attributes first condition step body,
      inr (inl (
        omega arith,
        omega arith,
        (m, (i, refl, (nth i terminals.For ∷ m, hb, refl)), (n, open_mark, (o, hf, (p, semicolon, (q, hc, (r, second_semicolon, (s, hs, (t, close_mark, ho)))))))),
      )),
    )

while_row : (i : ℕ) (m to : List Numbered) → Words (symbols.Skip terminals.OpenParenthesis ∷ symbols.Operand 27 ∷ symbols.Skip terminals.CloseParenthesis ∷ symbols.Statement ∷ symbols.Make acts.While ∷ []) m to → AttributedWord (nth i terminals.While ∷ m) to
while_row i m to (n, open_mark, (o, h, (p, close_mark, (q, (body, ho), e)))) attributes before hb =
    let condition = h (omega arith) (omega arith) in
    end_at (λ f l. (tree : Tree) × Control tree f l) e (
      a_while (first_among attributes i) attributes condition.0 body,
      inr (inr (inl (
        omega arith,
        omega arith,
        (m, (i, refl, (nth i terminals.While ∷ m, hb, refl)), (n, open_mark, (o, condition.1, (p, close_mark, ho)))),
      ))),
    )

do_row : (i : ℕ) (m to : List Numbered) → Words (symbols.Statement ∷ symbols.Skip terminals.While ∷ symbols.Skip terminals.OpenParenthesis ∷ symbols.Operand 27 ∷ symbols.Skip terminals.CloseParenthesis ∷ symbols.Skip terminals.Semicolon ∷ symbols.Make acts.Do ∷ []) m to → AttributedWord (nth i terminals.Do ∷ m) to
do_row i m to (n, (body, ho), (o, word, (p, open_mark, (q, h, (r, close_mark, (s, semicolon, e)))))) attributes before hb =
    let condition = h (omega arith) (omega arith) in
    end_at (λ f l. (tree : Tree) × Control tree f l) e (
      a_do (first_among attributes i) attributes body condition.0,
      inr (inr (inr (
        omega arith,
        omega arith,
        (m, (i, refl, (nth i terminals.Do ∷ m, hb, refl)), (n, ho, (o, word, (p, open_mark, (q, condition.1, (r, close_mark, semicolon)))))),
      ))),
    )

sound_attributed : (t : Terminal) → Sound AttributedWord t (on_attributed t)
sound_attributed t =
    sound_is t terminals.If (sound_reads if_row) (λ _. sound_is t terminals.For (sound_reads for_row)
    (λ _. sound_is t terminals.While (sound_reads while_row) (λ _. sound_only t terminals.Do (sound_reads do_row))))

-- ---- the parts of the head of a `for`

sound_optional : (t next : Terminal) → Sound (SomeMaybe (Perhaps n_expr)) t (on_optional t next)
sound_optional t next =
    sound_if (begins_expression t) _ _
    (λ _. sound_as (on_operand 27 t next) (λ from to h. let e = h (omega arith) (omega arith) in (present e.0, e.1)) (operand_never 27 t next) (sound_operand 27 t next))
    (λ _. sound_yields (λ ts e. (absent, refl)))

sound_first : (t next : Terminal) → Sound (SomeMaybe FirstIs) t (on_first t next)
sound_first t next =
    sound_if (begins_local t next) _ _
    (λ _. sound_as (on_local t) (λ from to h. (present h.0, inl h.1)) (local_never t) (sound_local t))
    (λ _. sound_if (begins_expression t) _ _
    (λ _. sound_as (on_operand 27 t next) (λ from to h. let e = h (omega arith) (omega arith) in (present e.0, inr e.1)) (operand_never 27 t next) (sound_operand 27 t next))
    (λ _. sound_yields (λ ts e. (absent, refl))))

-- ---- statements

-- a statement of what it is
Part : Tree → Step
Part part =
    Spells n_block part or (Spells n_local part then Mark terminals.Semicolon)
    or (Spells n_expr part then Mark terminals.Semicolon) or Spells n_if part or Spells n_for part
    or Spells n_while part or Spells n_do part or (Spells n_jump part then Mark terminals.Semicolon)

part_of : (part : Tree) (from to : List Numbered) → Part part from to → Spelled n_stmt from to
unfolding Part
part_of part from to h = (a_stmt (at_of part) (present part), (omega arith, omega arith, (refl, h)))

control_of : (tree : Tree) (from to : List Numbered) → Control tree from to → Spelled n_stmt from to
unfolding Part
control_of tree from to (inl h) = part_of tree from to (inr (inr (inr (inl h))))
control_of tree from to (inr (inl h)) = part_of tree from to (inr (inr (inr (inr (inl h)))))
control_of tree from to (inr (inr (inl h))) = part_of tree from to (inr (inr (inr (inr (inr (inl h))))))
control_of tree from to (inr (inr (inr h))) = part_of tree from to (inr (inr (inr (inr (inr (inr (inl h)))))))

block_statement_row : (from m to : List Numbered) → Spelled n_block from m → Words (symbols.Make acts.Part ∷ []) m to → Spelled n_stmt from to
unfolding Part
block_statement_row from m to (block, h) e = end_at (Spelled n_stmt) e (part_of block from m (inl h))

local_statement_row : (from m to : List Numbered) → Spelled n_local from m → Words (symbols.Skip terminals.Semicolon ∷ symbols.Make acts.Part ∷ []) m to → Spelled n_stmt from to
unfolding Part
local_statement_row from m to (local, h) (n, semicolon, e) = end_at (Spelled n_stmt) e (part_of local from n (inr (inl (m, h, semicolon))))

expression_statement_row : (from m to : List Numbered) → OperandWord 27 from m → Words (symbols.Skip terminals.Semicolon ∷ symbols.Make acts.Part ∷ []) m to → Spelled n_stmt from to
unfolding Part
expression_statement_row from m to h (n, semicolon, e) =
    let expression = h (omega arith) (omega arith) in
    end_at (Spelled n_stmt) e (part_of expression.0 from n (inr (inr (inl (m, expression.1, semicolon)))))

control_statement_row : (from m to : List Numbered) → AttributedWord from m → Words (symbols.Make acts.Part ∷ []) m to → Spelled n_stmt from to
control_statement_row from m to h e = let c = h no_trees from refl in end_at (Spelled n_stmt) e (control_of c.0 from m c.1)

attributed_statement_row : (i : ℕ) (m to : List Numbered) → Words (rest_of_attribute ++ symbols.Attributed ∷ symbols.Make acts.Part ∷ []) m to → Spelled n_stmt (nth i terminals.OpenBracket ∷ m) to
attributed_statement_row i m to words =
    let p = attributes_parts i m (symbols.Attributed ∷ symbols.Make acts.Part ∷ []) to words in
    let r = p.rest in
    let c = r.1 (more_trees p.first p.others) (nth i terminals.OpenBracket ∷ m) (p.middle, p.first_is, p.others_are) in
    end_at (Spelled n_stmt) r.2 (control_of c.0 (nth i terminals.OpenBracket ∷ m) r.0 c.1)

jump_part : (tree : Tree) (from m n : List Numbered) → Spells n_jump tree from m → Mark terminals.Semicolon m n → Spelled n_stmt from n
unfolding Part
jump_part tree from m n h semicolon = part_of tree from n (inr (inr (inr (inr (inr (inr (inr (m, h, semicolon))))))))

return_row : (i : ℕ) (m to : List Numbered) → Words (symbols.Optional ∷ symbols.Make acts.Jump ∷ symbols.Skip terminals.Semicolon ∷ symbols.Make acts.Part ∷ []) m to → Spelled n_stmt (nth i terminals.Return ∷ m) to
return_row i m to (n, (absent, is_end), (o, semicolon, e)) =
    end_at (Spelled n_stmt) e
    (jump_part (a_jump i absent) (nth i terminals.Return ∷ m) m o (omega arith, omega arith, (terminals.Return, refl, refl)) (semicolon.0, is_end ∙ semicolon.1))
return_row i m to (n, (present value, h), (o, semicolon, e)) =
    end_at (Spelled n_stmt) e
    (jump_part (a_jump i (present value)) (nth i terminals.Return ∷ m) n o (omega arith, omega arith, (m, refl, h)) semicolon)

jump_row : (t : Terminal) → is_jump t ≡ true → (i : ℕ) (m to : List Numbered) → Words (symbols.Make acts.Absent ∷ symbols.Make acts.Jump ∷ symbols.Skip terminals.Semicolon ∷ symbols.Make acts.Part ∷ []) m to → Spelled n_stmt (nth i t ∷ m) to
jump_row t c i m to (o, semicolon, e) =
    end_at (Spelled n_stmt) e (jump_part (a_jump i absent) (nth i t ∷ m) m o (omega arith, omega arith, (t, c, refl)) semicolon)

sound_statement : (t next : Terminal) → Sound (Spelled n_stmt) t (on_statement t next)
sound_statement t next =
    sound_if (begins_local t next) _ _ (λ _. sound_followed (on_local t) _ (sound_local t) local_statement_row)
    (λ _. sound_if (begins_expression t) _ _ (λ _. sound_followed (on_operand 27 t next) _ (sound_operand 27 t next) expression_statement_row)
    (λ _. sound_if (is_control t) _ _ (λ _. sound_led (acts.Empty ∷ []) _ (sound_followed (on_attributed t) (symbols.Make acts.Part ∷ []) (sound_attributed t) control_statement_row))
    (λ _. sound_is t terminals.Return (sound_reads return_row)
    (λ _. sound_if (is_jump t) _ _ (λ c. sound_reads (jump_row t c))
    (λ _. sound_is t terminals.OpenBracket (sound_reads attributed_statement_row)
    (λ _. sound_is t terminals.Semicolon (sound_reads (λ i m to e. end_at (Spelled n_stmt) e (a_stmt i absent, (omega arith, omega arith, refl))))
    (λ _. sound_followed (on_block t) _ (sound_block t) block_statement_row)))))))

statements_row : (from m to : List Numbered) → Spelled n_stmt from m → Words (symbols.Make acts.Append ∷ symbols.Statements ∷ []) m to → SomeTrees (Each n_stmt) from to
statements_row from m to (first, hf) (n, (others, ho), e) = end_at (SomeTrees (Each n_stmt)) e (more_trees first others, (m, hf, ho))

sound_statements : (t next : Terminal) → Sound (SomeTrees (Each n_stmt)) t (on_statements t next)
sound_statements t next =
    sound_if (begins_statement t) _ _ (λ _. sound_followed (on_statement t next) _ (sound_statement t next) statements_row)
    (λ _. sound_yields (λ ts e. (no_trees, refl)))

-- ---- arguments

ArgsWord : Step
ArgsWord = SomeTrees (λ trees. PerhapsListed n_expr trees then Mark terminals.CloseParenthesis)

arg_list_row : (from m to : List Numbered) → OperandWord 27 from m → Words (symbols.Make acts.Append ∷ symbols.Expressions ∷ symbols.Skip terminals.CloseParenthesis ∷ []) m to → ArgsWord from to
unfolding ArgsWord
arg_list_row from m to h (n, (others, ho), (o, close_mark, e)) =
    let first = h (omega arith) (omega arith) in
    end_at ArgsWord e (more_trees first.0 others, (n, (m, first.1, ho), close_mark))

no_args_row : (i : ℕ) (m to : List Numbered) → Words [] m to → ArgsWord (nth i terminals.CloseParenthesis ∷ m) to
unfolding ArgsWord
no_args_row i m to e = end_at ArgsWord e (no_trees, (nth i terminals.CloseParenthesis ∷ m, refl, (i, refl)))

sound_arg_list : (t next : Terminal) → Sound (Word symbols.ArgList) t (on_arg_list t next)
unfolding ArgsWord
sound_arg_list t next =
    sound_if (begins_expression t) _ _ (λ _. sound_followed (on_operand 27 t next) _ (sound_operand 27 t next) arg_list_row)
    (λ _. sound_only t terminals.CloseParenthesis (sound_reads no_args_row))

-- ---- every move

name_row : (i : ℕ) (m to : List Numbered) → Words [] m to → Mark terminals.Name (nth i terminals.Name ∷ m) to
name_row i m to e = (i, ap (λ ts. nth i terminals.Name ∷ ts) e)

skip_row : (u : Terminal) (i : ℕ) (m to : List Numbered) → Words [] m to → Mark u (nth i u ∷ m) to
skip_row u i m to e = (i, ap (λ ts. nth i u ∷ ts) e)

pub sound_move : (s : Symbol) (t next : Terminal) → Sound (Word s) t (move_of s t next)
sound_move (symbols.Make act) t next = sound_yields (λ ts e. refl)
sound_move (symbols.Skip u) t next = sound_only t u (sound_reads (skip_row u))
sound_move symbols.Name t next = sound_only t terminals.Name (sound_reads name_row)
sound_move symbols.Item t next = sound_item t
sound_move symbols.Items t next = sound_items t
sound_move symbols.Members t next = sound_members t
sound_move symbols.Member t next = sound_member t
sound_move symbols.Type t next = sound_type t
sound_move symbols.Declarator t next = sound_declarator t
sound_move symbols.Declarators t next = sound_declarators t
sound_move symbols.Lengths t next = sound_lengths t
sound_move symbols.Register t next = sound_register t
sound_move symbols.Space t next = sound_space t
sound_move symbols.Init t next = sound_init t next
sound_move symbols.Inits t next = sound_inits t next
sound_move symbols.Result t next = sound_result t
sound_move symbols.Params t next = sound_params t
sound_move symbols.Param t next = sound_param t
sound_move symbols.MoreParams t next = sound_more_params t
sound_move symbols.Direction t next = sound_direction t
sound_move symbols.Semantic t next = sound_semantic t
sound_move symbols.AttributeArguments t next = sound_attribute_arguments t
sound_move symbols.Attributes t next = sound_attributes t
sound_move symbols.Attributed t next = sound_attributed t
sound_move symbols.Block t next = sound_block t
sound_move symbols.Statement t next = sound_statement t next
sound_move symbols.Statements t next = sound_statements t next
sound_move symbols.Local t next = sound_local t
sound_move symbols.Start t next = sound_start t
sound_move symbols.Starts t next = sound_starts t
sound_move symbols.StartInit t next = sound_start_init t
sound_move symbols.Else t next = sound_else t
sound_move symbols.First t next = sound_first t next
sound_move symbols.Optional t next = sound_optional t next
sound_move (symbols.Operand k) t next = sound_operand k t next
sound_move (symbols.Parenthesis k) t next = sound_parenthesis k t next
sound_move (symbols.Tail production k) t next = sound_tail production k t
sound_move symbols.MethodArguments t next = sound_method_arguments t
sound_move symbols.Args t next = sound_args t
sound_move symbols.ArgList t next = sound_arg_list t next
sound_move symbols.Expressions t next = sound_expressions t
