-- The moves on declarations are sound.
use Rattle.std.proofs.Common.{◌≡◌, refl, ℕ, true, if◌then◌else◌, ◌||◌, inl, inr, None, Some, List, [], ◌∷◌, ◌++◌, arith}
use Rattle.hl_lexer.specs.declared.terminal.Terminal.{Terminal}
use Rattle.hl_lexer.specs.declared.terminal.Terminal.TheVariants as terminals
use Rattle.hl_parser.specs.declared.act.Act.TheVariants as acts
use Rattle.hl_parser.specs.declared.symbol.Symbol.{Symbol}
use Rattle.hl_parser.specs.declared.symbol.Symbol.TheVariants as symbols
use Rattle.hl_parser.specs.Codes.{is}
use Rattle.hl_parser.specs.Grammar.{AttributeArguments, Commas, Each, Mark, Numbered, Perhaps, PerhapsListed, SemanticIs, SpaceIs, Spells, Step, first_among, is_direction, is_element_kind, is_raw_kind, n_attribute, n_buffer, n_constant, n_direction, n_function, n_init, n_item, n_kind, n_param, n_result, n_shared, n_struct, n_type, nth, ◌or◌, ◌then◌}
use Rattle.hl_parser.specs.Machine.{begins_expression, begins_init, begins_item, begins_param, begins_type, on_attribute_arguments, on_attributes, on_direction, on_init, on_inits, on_item, on_items, on_more_params, on_operand, on_param, on_params, on_register, on_result, on_semantic, on_space, on_type, rest_of_attribute, rest_of_buffer, rest_of_function}
use Rattle.hl_parser.specs.Trees.{Tree, an_item, a_struct, a_buffer, a_kind, a_shared, a_constant, an_init, a_function, a_result, a_param, a_direction, an_attribute, Trees, no_trees, more_trees, absent, present, at_of}
use Rattle.hl_parser.proofs.Words.{BracesEnd, OperandWord, SomeMaybe, SomeOption, SomeTrees, Sound, Spelled, Word, Words, sound_followed, sound_if, sound_is, sound_led, sound_only, sound_reads, sound_yields}
use Rattle.hl_parser.proofs.Soundness.{end_at, sound_operand, sound_type}

-- ---- buffers

space_row : (i : ℕ) (m to : List Numbered) → Words (symbols.Name ∷ []) m to → SomeOption SpaceIs (nth i terminals.Comma ∷ m) to
space_row i m to (n, (name, named), e) = end_at (SomeOption SpaceIs) e (Some name, (m, (i, refl), named))

pub sound_space : (t : Terminal) → Sound (SomeOption SpaceIs) t (on_space t)
sound_space t = sound_is t terminals.Comma (sound_reads space_row) (λ _. sound_yields (λ ts e. (None, refl)))

register_row : (i : ℕ) (m to : List Numbered) → Words (symbols.Skip terminals.Register ∷ symbols.Skip terminals.OpenParenthesis ∷ symbols.Name ∷ symbols.Space ∷ symbols.Skip terminals.CloseParenthesis ∷ []) m to → Word symbols.Register (nth i terminals.Colon ∷ m) to
register_row i m to (n, word, (o, open_mark, (p, (name, named), (q, (space, hs), (r, close_mark, e))))) =
    end_at (Word symbols.Register) e (Some name, space, (m, (i, refl), (n, word, (o, open_mark, (p, named, (q, hs, close_mark))))))

pub sound_register : (t : Terminal) → Sound (Word symbols.Register) t (on_register t)
sound_register t = sound_is t terminals.Colon (sound_reads register_row) (λ _. sound_yields (λ ts e. (None, None, refl)))

-- an item of what it is
item_of : (item : Tree) (from to : List Numbered) → (Spells n_struct item or Spells n_buffer item or Spells n_shared item or Spells n_constant item or Spells n_function item) from to → Spelled n_item from to
item_of item from to h = (an_item (at_of item) item, (omega arith, omega arith, (refl, h)))

buffer_row : (kind : Tree) (from m to : List Numbered) → Spells n_kind kind from m → Words rest_of_buffer m to → Spelled n_item from to
buffer_row kind from m to hk (n, (name, named), (o, (register, space, hr), (p, semicolon, e))) =
    end_at (Spelled n_item) e
    (item_of (a_buffer (at_of kind) kind name register space) from p (inr (inl (omega arith, omega arith, (refl, (m, hk, (n, named, (o, hr, semicolon))))))))

raw_row : (t : Terminal) → is_raw_kind t ≡ true → (i : ℕ) (m to : List Numbered) → Words (symbols.Make acts.Absent ∷ rest_of_buffer) m to → Spelled n_item (nth i t ∷ m) to
raw_row t c i m to words = buffer_row (a_kind i absent) (nth i t ∷ m) m to (omega arith, omega arith, (t, c, refl)) words

element_row : (t : Terminal) → is_element_kind t ≡ true → (i : ℕ) (m to : List Numbered) → Words (symbols.Skip terminals.Less ∷ symbols.Type ∷ symbols.Skip terminals.Greater ∷ rest_of_buffer) m to → Spelled n_item (nth i t ∷ m) to
element_row t c i m to (n, less_mark, (o, (element, he), (p, greater, words))) =
    buffer_row (a_kind i (present element)) (nth i t ∷ m) p to (omega arith, omega arith, (m, (t, c, refl), (n, less_mark, (o, he, greater)))) words

-- ---- initialisers

value_row : (from m to : List Numbered) → OperandWord 27 from m → Words (symbols.Make acts.Value ∷ []) m to → Spelled n_init from to
value_row from m to h e =
    let value = h (omega arith) (omega arith) in
    end_at (Spelled n_init) e (an_init (at_of value.0) (present value.0) no_trees, (omega arith, omega arith, (refl, value.1)))

braces_row : (i : ℕ) (m to : List Numbered) → Words (symbols.Make acts.Empty ∷ symbols.Init ∷ symbols.Make acts.Append ∷ symbols.Inits ∷ symbols.Make acts.Braces ∷ []) m to → Spelled n_init (nth i terminals.OpenBrace ∷ m) to
braces_row i m to (n, (first, hf), (o, (others, (p, ho, braces_end)), e)) =
    end_at (Spelled n_init) e
    (an_init i absent (more_trees first others), (omega arith, omega arith, (m, refl, (p, (n, hf, ho), braces_end))))

pub sound_init : (t next : Terminal) → Sound (Spelled n_init) t (on_init t next)
sound_init t next =
    sound_if (begins_expression t) _ _ (λ _. sound_followed (on_operand 27 t next) _ (sound_operand 27 t next) value_row)
    (λ _. sound_only t terminals.OpenBrace (sound_reads braces_row))

InitsWord : Step
InitsWord = SomeTrees (λ trees. Commas n_init trees then BracesEnd)

inits_row : (i : ℕ) (m to : List Numbered) → Words (symbols.Init ∷ symbols.Make acts.Append ∷ symbols.Inits ∷ []) m to → InitsWord (nth i terminals.Comma ∷ m) to
unfolding InitsWord
inits_row i m to (n, (first, hf), (o, (others, (p, ho, braces_end)), e)) =
    end_at InitsWord e (more_trees first others, (p, (m, (i, refl), (n, hf, ho)), braces_end))

last_comma_row : (i : ℕ) (m to : List Numbered) → Words (symbols.Skip terminals.CloseBrace ∷ []) m to → InitsWord (nth i terminals.Comma ∷ m) to
unfolding InitsWord
last_comma_row i m to (n, close_mark, e) = end_at InitsWord e (no_trees, (nth i terminals.Comma ∷ m, refl, inr (m, (i, refl), close_mark)))

close_brace_row : (i : ℕ) (m to : List Numbered) → Words [] m to → InitsWord (nth i terminals.CloseBrace ∷ m) to
unfolding InitsWord
close_brace_row i m to e = end_at InitsWord e (no_trees, (nth i terminals.CloseBrace ∷ m, refl, inl (i, refl)))

pub sound_inits : (t next : Terminal) → Sound (Word symbols.Inits) t (on_inits t next)
unfolding InitsWord
sound_inits t next =
    sound_is t terminals.CloseBrace (sound_reads close_brace_row)
    (λ _. sound_only t terminals.Comma (sound_if (begins_init next) _ _ (λ _. sound_reads inits_row) (λ _. sound_reads last_comma_row)))

-- ---- attributes and parameters

attribute_arguments_row : (i : ℕ) (m to : List Numbered) → Words (symbols.Operand 27 ∷ symbols.Make acts.Append ∷ symbols.Expressions ∷ symbols.Skip terminals.CloseParenthesis ∷ []) m to → SomeTrees AttributeArguments (nth i terminals.OpenParenthesis ∷ m) to
attribute_arguments_row i m to (n, h, (o, (others, ho), (p, close_mark, e))) =
    let first = h (omega arith) (omega arith) in
    end_at (SomeTrees AttributeArguments) e (more_trees first.0 others, (m, (i, refl), (n, first.1, (o, ho, close_mark))))

pub sound_attribute_arguments : (t : Terminal) → Sound (SomeTrees AttributeArguments) t (on_attribute_arguments t)
sound_attribute_arguments t =
    sound_is t terminals.OpenParenthesis (sound_reads attribute_arguments_row) (λ _. sound_yields (λ ts e. (no_trees, refl)))

-- attributes from behind the bracket of the first one, up to what stands behind them
pub record AttributesParts (i : ℕ) (m : List Numbered) (more : List Symbol) (to : List Numbered) : Type 0 where
  pub first : Tree
  pub others : Trees
  pub middle : List Numbered
  pub behind : List Numbered
  pub first_is : Spells n_attribute first (nth i terminals.OpenBracket ∷ m) middle
  pub others_are : Each n_attribute others middle behind
  pub rest : Words more behind to

pub attributes_parts : (i : ℕ) (m : List Numbered) (more : List Symbol) (to : List Numbered) → Words (rest_of_attribute ++ more) m to → AttributesParts i m more to
attributes_parts i m more to (n, (name, named), (o, (arguments, ha), (p, close_mark, (q, (others, ho), rest)))) = record {
  first = an_attribute i name arguments;
  others = others;
  middle = p;
  behind = q;
  first_is = (omega arith, omega arith, (m, refl, (n, named, (o, ha, close_mark))));
  others_are = ho;
  rest = rest;
}

attributes_row : (i : ℕ) (m to : List Numbered) → Words rest_of_attribute m to → SomeTrees (Each n_attribute) (nth i terminals.OpenBracket ∷ m) to
attributes_row i m to words =
    let p = attributes_parts i m [] to words in
    end_at (SomeTrees (Each n_attribute)) p.rest (more_trees p.first p.others, (p.middle, p.first_is, p.others_are))

pub sound_attributes : (t : Terminal) → Sound (SomeTrees (Each n_attribute)) t (on_attributes t)
sound_attributes t = sound_is t terminals.OpenBracket (sound_reads attributes_row) (λ _. sound_yields (λ ts e. (no_trees, refl)))

semantic_row : (i : ℕ) (m to : List Numbered) → Words (symbols.Name ∷ []) m to → SomeOption SemanticIs (nth i terminals.Colon ∷ m) to
semantic_row i m to (n, (name, named), e) = end_at (SomeOption SemanticIs) e (Some name, (m, (i, refl), named))

pub sound_semantic : (t : Terminal) → Sound (SomeOption SemanticIs) t (on_semantic t)
sound_semantic t = sound_is t terminals.Colon (sound_reads semantic_row) (λ _. sound_yields (λ ts e. (None, refl)))

direction_row : (t : Terminal) → is_direction t ≡ true → (i : ℕ) (m to : List Numbered) → Words (symbols.Make acts.Direction ∷ []) m to → SomeMaybe (Perhaps n_direction) (nth i t ∷ m) to
direction_row t c i m to e = end_at (SomeMaybe (Perhaps n_direction)) e (present (a_direction i), (omega arith, omega arith, (t, c, refl)))

pub sound_direction : (t : Terminal) → Sound (SomeMaybe (Perhaps n_direction)) t (on_direction t)
sound_direction t = sound_if (is_direction t) _ _ (λ c. sound_reads (direction_row t c)) (λ _. sound_yields (λ ts e. (absent, refl)))

const_param_row : (i : ℕ) (m to : List Numbered) → Words (symbols.Direction ∷ symbols.Type ∷ symbols.Declarator ∷ symbols.Semantic ∷ symbols.Make acts.Param ∷ []) m to → Spelled n_param (nth i terminals.Const ∷ m) to
const_param_row i m to (n, (direction, hd), (o, (type, ht), (p, (declarator, hn), (q, (semantic, hs), e)))) =
    end_at (Spelled n_param) e
    (a_param i (Some i) direction type declarator semantic, (omega arith, omega arith, (refl, (m, refl, (n, hd, (o, ht, (p, hn, hs)))))))

direction_param_row : (t : Terminal) → is_direction t ≡ true → (i : ℕ) (m to : List Numbered) → Words (symbols.Make acts.Direction ∷ symbols.Type ∷ symbols.Declarator ∷ symbols.Semantic ∷ symbols.Make acts.Param ∷ []) m to → Spelled n_param (nth i t ∷ m) to
direction_param_row t c i m to (o, (type, ht), (p, (declarator, hn), (q, (semantic, hs), e))) =
    end_at (Spelled n_param) e (
      a_param i None (present (a_direction i)) type declarator semantic,
      (omega arith, omega arith, (refl, (nth i t ∷ m, refl, (m, (omega arith, omega arith, (t, c, refl)), (o, ht, (p, hn, hs)))))),
    )

type_param_row : (from m to : List Numbered) → Spelled n_type from m → Words (symbols.Declarator ∷ symbols.Semantic ∷ symbols.Make acts.Param ∷ []) m to → Spelled n_param from to
type_param_row from m to (type, ht) (p, (declarator, hn), (q, (semantic, hs), e)) =
    end_at (Spelled n_param) e
    (a_param (at_of type) None absent type declarator semantic, (omega arith, omega arith, (refl, (from, refl, (from, refl, (m, ht, (p, hn, hs)))))))

pub sound_param : (t : Terminal) → Sound (Spelled n_param) t (on_param t)
sound_param t =
    sound_if (begins_type t) _ _ (λ _. sound_led (acts.Absent ∷ acts.Absent ∷ []) _ (sound_followed (on_type t) _ (sound_type t) type_param_row))
    (λ _. sound_if (is_direction t) _ _ (λ c. sound_reads (direction_param_row t c)) (λ _. sound_only t terminals.Const (sound_reads const_param_row)))

ParamsWord : Step
ParamsWord = SomeTrees (λ trees. PerhapsListed n_param trees then Mark terminals.CloseParenthesis)

params_row : (from m to : List Numbered) → Spelled n_param from m → Words (symbols.Make acts.Append ∷ symbols.MoreParams ∷ symbols.Skip terminals.CloseParenthesis ∷ []) m to → ParamsWord from to
unfolding ParamsWord
params_row from m to (first, hf) (n, (others, ho), (o, close_mark, e)) =
    end_at ParamsWord e (more_trees first others, (n, (m, hf, ho), close_mark))

no_params_row : (i : ℕ) (m to : List Numbered) → Words [] m to → ParamsWord (nth i terminals.CloseParenthesis ∷ m) to
unfolding ParamsWord
no_params_row i m to e = end_at ParamsWord e (no_trees, (nth i terminals.CloseParenthesis ∷ m, refl, (i, refl)))

pub sound_params : (t : Terminal) → Sound (Word symbols.Params) t (on_params t)
unfolding ParamsWord
sound_params t =
    sound_if (begins_param t) _ _ (λ _. sound_followed (on_param t) _ (sound_param t) params_row)
    (λ _. sound_only t terminals.CloseParenthesis (sound_reads no_params_row))

more_params_row : (i : ℕ) (m to : List Numbered) → Words (symbols.Param ∷ symbols.Make acts.Append ∷ symbols.MoreParams ∷ []) m to → SomeTrees (Commas n_param) (nth i terminals.Comma ∷ m) to
more_params_row i m to (n, (first, hf), (o, (others, ho), e)) =
    end_at (SomeTrees (Commas n_param)) e (more_trees first others, (m, (i, refl), (n, hf, ho)))

pub sound_more_params : (t : Terminal) → Sound (SomeTrees (Commas n_param)) t (on_more_params t)
sound_more_params t = sound_is t terminals.Comma (sound_reads more_params_row) (λ _. sound_yields (λ ts e. (no_trees, refl)))

-- ---- functions and items

type_result_row : (from m to : List Numbered) → Spelled n_type from m → Words (symbols.Make acts.TypeResult ∷ []) m to → Spelled n_result from to
type_result_row from m to (type, ht) e = end_at (Spelled n_result) e (a_result (at_of type) (present type), (omega arith, omega arith, (refl, ht)))

pub sound_result : (t : Terminal) → Sound (Spelled n_result) t (on_result t)
sound_result t =
    sound_if (begins_type t) _ _ (λ _. sound_followed (on_type t) _ (sound_type t) type_result_row)
    (λ _. sound_only t terminals.Void (sound_reads (λ i m to e. end_at (Spelled n_result) e (a_result i absent, (omega arith, omega arith, refl)))))

function_row : (attributes : Trees) (result : Tree) (before from m to : List Numbered) → Each n_attribute attributes before from → Spells n_result result from m → Words rest_of_function m to → Spelled n_item before to
function_row attributes result before from m to ha hr (n, (name, named), (o, open_mark, (p, (params, (q, hp, close_mark)), (r, (block, hb), e)))) =
    end_at (Spelled n_item) e
    (item_of (a_function (first_among attributes (at_of result)) attributes result name params block) before r
    (inr (inr (inr (inr (omega arith, omega arith, (refl, (from, ha, (m, hr, (n, named, (o, open_mark, (q, hp, (p, close_mark, hb)))))))))))))

plain_function_row : (from m to : List Numbered) → Spelled n_result from m → Words rest_of_function m to → Spelled n_item from to
plain_function_row from m to (result, hr) words = function_row no_trees result from from m to refl hr words

attributed_function_row : (i : ℕ) (m to : List Numbered) → Words (rest_of_attribute ++ symbols.Result ∷ rest_of_function) m to → Spelled n_item (nth i terminals.OpenBracket ∷ m) to
attributed_function_row i m to words =
    let p = attributes_parts i m (symbols.Result ∷ rest_of_function) to words in
    let r = p.rest in
    function_row (more_trees p.first p.others) r.1.0 (nth i terminals.OpenBracket ∷ m) p.behind r.0 to (p.middle, p.first_is, p.others_are) r.1.1 r.2

struct_row : (i : ℕ) (m to : List Numbered) → Words (symbols.Name ∷ symbols.Skip terminals.OpenBrace ∷ symbols.Make acts.Empty ∷ symbols.Member ∷ symbols.Make acts.Append ∷ symbols.Members ∷ symbols.Skip terminals.CloseBrace ∷ symbols.Skip terminals.Semicolon ∷ symbols.Make acts.Struct ∷ symbols.Make acts.Item ∷ []) m to → Spelled n_item (nth i terminals.Struct ∷ m) to
struct_row i m to (n, (name, named), (o, brace, (p, (first, hf), (q, (others, ho), (r, close_mark, (s, semicolon, e)))))) =
    end_at (Spelled n_item) e
    (item_of (a_struct i name (more_trees first others)) (nth i terminals.Struct ∷ m) s
    (inl (omega arith, omega arith, (m, refl, (n, named, (o, brace, (q, (p, hf, ho), (r, close_mark, semicolon))))))))

shared_row : (i : ℕ) (m to : List Numbered) → Words (symbols.Type ∷ symbols.Make acts.Empty ∷ symbols.Declarator ∷ symbols.Make acts.Append ∷ symbols.Declarators ∷ symbols.Skip terminals.Semicolon ∷ symbols.Make acts.Shared ∷ symbols.Make acts.Item ∷ []) m to → Spelled n_item (nth i terminals.Groupshared ∷ m) to
shared_row i m to (n, (type, ht), (o, (first, hf), (p, (others, ho), (q, semicolon, e)))) =
    end_at (Spelled n_item) e
    (item_of (a_shared i type (more_trees first others)) (nth i terminals.Groupshared ∷ m) q
    (inr (inr (inl (omega arith, omega arith, (m, refl, (n, ht, (p, (o, hf, ho), semicolon))))))))

constant_row : (i : ℕ) (m to : List Numbered) → Words (symbols.Skip terminals.Const ∷ symbols.Type ∷ symbols.Declarator ∷ symbols.Skip terminals.Equals ∷ symbols.Init ∷ symbols.Skip terminals.Semicolon ∷ symbols.Make acts.Constant ∷ symbols.Make acts.Item ∷ []) m to → Spelled n_item (nth i terminals.Static ∷ m) to
constant_row i m to (n, constant, (o, (type, ht), (p, (declarator, hd), (q, equals, (r, (init, hi), (s, semicolon, e)))))) =
    end_at (Spelled n_item) e
    (item_of (a_constant i type declarator init) (nth i terminals.Static ∷ m) s
    (inr (inr (inr (inl (omega arith, omega arith, (m, refl, (n, constant, (o, ht, (p, hd, (q, equals, (r, hi, semicolon))))))))))))

pub sound_item : (t : Terminal) → Sound (Spelled n_item) t (on_item t)
sound_item t =
    sound_if (begins_type t || is t terminals.Void) _ _
    (λ _. sound_led (acts.Empty ∷ []) _ (sound_followed (on_result t) rest_of_function (sound_result t) plain_function_row))
    (λ _. sound_if (is_raw_kind t) _ _ (λ c. sound_reads (raw_row t c))
    (λ _. sound_if (is_element_kind t) _ _ (λ c. sound_reads (element_row t c))
    (λ _. sound_is t terminals.OpenBracket (sound_reads attributed_function_row)
    (λ _. sound_is t terminals.Struct (sound_reads struct_row)
    (λ _. sound_is t terminals.Groupshared (sound_reads shared_row)
    (λ _. sound_only t terminals.Static (sound_reads constant_row)))))))

items_row : (from m to : List Numbered) → Spelled n_item from m → Words (symbols.Make acts.Append ∷ symbols.Items ∷ []) m to → SomeTrees (Each n_item) from to
items_row from m to (first, hf) (n, (others, ho), e) = end_at (SomeTrees (Each n_item)) e (more_trees first others, (m, hf, ho))

pub sound_items : (t : Terminal) → Sound (SomeTrees (Each n_item)) t (on_items t)
sound_items t =
    sound_if (begins_item t) _ _ (λ _. sound_followed (on_item t) _ (sound_item t) items_row)
    (λ _. sound_yields (λ ts e. (no_trees, refl)))
