-- What notes the broken rules of places, one after another: those of a list behind those of another, and those of each part.
use Rattle.std.proofs.Common.{◌≡◌, ◌∙◌, refl, ap, ℕ, Bool, List, [], ◌∷◌, ◌++◌, Option, Some}
use Rattle.std.proofs.lemmas.List.{append-nil}
use Rattle.hl_parser.specs.Trees.{Tree, Trees, Maybe}
use Rattle.hl_meaning.specs.Types.{Ty}
use Rattle.hl_rules.specs.declared.found.Broken.{Broken}
use Rattle.hl_rules.specs.DeclarationRules.{rule_1, rule_2, rule_3, rule_4, rule_5, rule_6, rule_7, rule_8, rule_9, rule_10, rule_11, rule_12, rule_13, rule_14, rule_15, rule_16, rule_17, rule_21, rule_42}
use Rattle.hl_rules.specs.ExpressionRules.{rule_18, rule_19, rule_20, rule_22, rule_23, rule_24, rule_25, rule_26, rule_27, rule_28, rule_29, rule_30, rule_31, rule_32, rule_33, rule_34, rule_35, rule_36, rule_37, rule_38, rule_39, rule_40, rule_41}
use Rattle.hl_rules.specs.Found.{breaking, first_of, gathered}
use Rattle.hl_rules.specs.Parts.{Site, a_brace_init, a_call, a_cast, a_condition, a_constant_init, a_constructor, a_conversion, a_declared, a_dot, a_function_attribute, a_global_name, a_length, a_local_name, a_loop_jump, a_member_name, a_method_call, a_register, a_return, a_space, a_statement_attribute, a_type_name, a_use, a_variable, a_whole_function, a_whole_struct, a_written_side, an_element, an_end, an_entry_param, an_index, an_operand, site}
use Rattle.hl_rules.specs.Rules.{broken_in, noted}
use Rattle.hl_rules.specs.Scopes.{MemberInfo, Scope}
use Rattle.hl_rules.proofs.Free.{free-append}

-- ---- lists

pub gathered-append : (found : Option Broken) (xs ys : List Broken) → gathered found (xs ++ ys) ≡ gathered (gathered found xs) ys
gathered-append found [] ys = refl
gathered-append found (x ∷ xs) ys = gathered-append (Some (first_of found x)) xs ys

pub noted-none : (found : Option Broken) → noted found [] ≡ found
unfolding noted
noted-none found = refl

pub noted-append : (found : Option Broken) (xs ys : List Site) → noted found (xs ++ ys) ≡ noted (noted found xs) ys
unfolding noted
noted-append found xs ys = ap (λ l. gathered found l) (free-append xs ys) ∙ gathered-append found (broken_in xs) (broken_in ys)

pub noted-first : (found : Option Broken) (first : Site) (rest : List Site) → noted found (first ∷ rest) ≡ noted (noted found (first ∷ [])) rest
noted-first found first rest = noted-append found (first ∷ []) rest

behind_1 : (found : Option Broken) (a : List Broken) → gathered found (a ++ []) ≡ gathered found a
behind_1 found a = gathered-append found a []

behind_2 : (found : Option Broken) (a b : List Broken) → gathered found (a ++ (b ++ [])) ≡ gathered (gathered found a) b
behind_2 found a b = gathered-append found a (b ++ []) ∙ behind_1 (gathered found a) b

behind_3 : (found : Option Broken) (a b c : List Broken) → gathered found (a ++ (b ++ (c ++ []))) ≡ gathered (gathered (gathered found a) b) c
behind_3 found a b c = gathered-append found a (b ++ (c ++ [])) ∙ behind_2 (gathered found a) b c

behind_4 : (found : Option Broken) (a b c d : List Broken) → gathered found (a ++ (b ++ (c ++ (d ++ [])))) ≡ gathered (gathered (gathered (gathered found a) b) c) d
behind_4 found a b c d = gathered-append found a (b ++ (c ++ (d ++ []))) ∙ behind_3 (gathered found a) b c d

behind_5 : (found : Option Broken) (a b c d e : List Broken) → gathered found (a ++ (b ++ (c ++ (d ++ (e ++ []))))) ≡ gathered (gathered (gathered (gathered (gathered found a) b) c) d) e
behind_5 found a b c d e = gathered-append found a (b ++ (c ++ (d ++ (e ++ [])))) ∙ behind_4 (gathered found a) b c d e

behind_6 : (found : Option Broken) (a b c d e f : List Broken) → gathered found (a ++ (b ++ (c ++ (d ++ (e ++ (f ++ [])))))) ≡ gathered (gathered (gathered (gathered (gathered (gathered found a) b) c) d) e) f
behind_6 found a b c d e f = gathered-append found a (b ++ (c ++ (d ++ (e ++ (f ++ []))))) ∙ behind_5 (gathered found a) b c d e f

behind_7 : (found : Option Broken) (a b c d e f g : List Broken) → gathered found (a ++ (b ++ (c ++ (d ++ (e ++ (f ++ (g ++ []))))))) ≡ gathered (gathered (gathered (gathered (gathered (gathered (gathered found a) b) c) d) e) f) g
behind_7 found a b c d e f g = gathered-append found a (b ++ (c ++ (d ++ (e ++ (f ++ (g ++ [])))))) ∙ behind_6 (gathered found a) b c d e f g

behind_8 : (found : Option Broken) (a b c d e f g h : List Broken) → gathered found (a ++ (b ++ (c ++ (d ++ (e ++ (f ++ (g ++ (h ++ [])))))))) ≡ gathered (gathered (gathered (gathered (gathered (gathered (gathered (gathered found a) b) c) d) e) f) g) h
behind_8 found a b c d e f g h = gathered-append found a (b ++ (c ++ (d ++ (e ++ (f ++ (g ++ (h ++ []))))))) ∙ behind_7 (gathered found a) b c d e f g h

-- ---- parts

pub noted-variable : (found : Option Broken) (s : Scope) (at : ℕ) → noted found (site s (a_variable at) ∷ []) ≡ gathered (gathered found (breaking 3 (rule_3 s (a_variable at)))) (breaking 4 (rule_4 s (a_variable at)))
unfolding noted
noted-variable found s at = ap (λ l. gathered found l) (append-nil (breaking 3 (rule_3 s (a_variable at)) ++ (breaking 4 (rule_4 s (a_variable at)) ++ []))) ∙ behind_2 found (breaking 3 (rule_3 s (a_variable at))) (breaking 4 (rule_4 s (a_variable at)))

pub noted-call : (found : Option Broken) (s : Scope) (at : ℕ) (arguments : Tree) → noted found (site s (a_call at arguments) ∷ []) ≡ gathered (gathered (gathered (gathered (gathered (gathered (gathered (gathered found (breaking 3 (rule_3 s (a_call at arguments)))) (breaking 4 (rule_4 s (a_call at arguments)))) (breaking 18 (rule_18 s (a_call at arguments)))) (breaking 35 (rule_35 s (a_call at arguments)))) (breaking 36 (rule_36 s (a_call at arguments)))) (breaking 37 (rule_37 s (a_call at arguments)))) (breaking 38 (rule_38 s (a_call at arguments)))) (breaking 40 (rule_40 s (a_call at arguments)))
unfolding noted
noted-call found s at arguments = ap (λ l. gathered found l) (append-nil (breaking 3 (rule_3 s (a_call at arguments)) ++ (breaking 4 (rule_4 s (a_call at arguments)) ++ (breaking 18 (rule_18 s (a_call at arguments)) ++ (breaking 35 (rule_35 s (a_call at arguments)) ++ (breaking 36 (rule_36 s (a_call at arguments)) ++ (breaking 37 (rule_37 s (a_call at arguments)) ++ (breaking 38 (rule_38 s (a_call at arguments)) ++ (breaking 40 (rule_40 s (a_call at arguments)) ++ []))))))))) ∙ behind_8 found (breaking 3 (rule_3 s (a_call at arguments))) (breaking 4 (rule_4 s (a_call at arguments))) (breaking 18 (rule_18 s (a_call at arguments))) (breaking 35 (rule_35 s (a_call at arguments))) (breaking 36 (rule_36 s (a_call at arguments))) (breaking 37 (rule_37 s (a_call at arguments))) (breaking 38 (rule_38 s (a_call at arguments))) (breaking 40 (rule_40 s (a_call at arguments)))

pub noted-use : (found : Option Broken) (s : Scope) (e : Tree) → noted found (site s (a_use e) ∷ []) ≡ gathered found (breaking 39 (rule_39 s (a_use e)))
unfolding noted
noted-use found s e = ap (λ l. gathered found l) (append-nil (breaking 39 (rule_39 s (a_use e)) ++ [])) ∙ behind_1 found (breaking 39 (rule_39 s (a_use e)))

pub noted-operand : (found : Option Broken) (s : Scope) (e : Tree) → noted found (site s (an_operand e) ∷ []) ≡ gathered found (breaking 32 (rule_32 s (an_operand e)))
unfolding noted
noted-operand found s e = ap (λ l. gathered found l) (append-nil (breaking 32 (rule_32 s (an_operand e)) ++ [])) ∙ behind_1 found (breaking 32 (rule_32 s (an_operand e)))

pub noted-conversion : (found : Option Broken) (s : Scope) (from : Option Ty) (to : Option Ty) (at : ℕ) → noted found (site s (a_conversion from to at) ∷ []) ≡ gathered found (breaking 24 (rule_24 s (a_conversion from to at)))
unfolding noted
noted-conversion found s from to at = ap (λ l. gathered found l) (append-nil (breaking 24 (rule_24 s (a_conversion from to at)) ++ [])) ∙ behind_1 found (breaking 24 (rule_24 s (a_conversion from to at)))

pub noted-written_side : (found : Option Broken) (s : Scope) (side : Tree) → noted found (site s (a_written_side side) ∷ []) ≡ gathered found (breaking 25 (rule_25 s (a_written_side side)))
unfolding noted
noted-written_side found s side = ap (λ l. gathered found l) (append-nil (breaking 25 (rule_25 s (a_written_side side)) ++ [])) ∙ behind_1 found (breaking 25 (rule_25 s (a_written_side side)))

pub noted-dot : (found : Option Broken) (s : Scope) (operand : Tree) (name : ℕ) → noted found (site s (a_dot operand name) ∷ []) ≡ gathered (gathered found (breaking 26 (rule_26 s (a_dot operand name)))) (breaking 27 (rule_27 s (a_dot operand name)))
unfolding noted
noted-dot found s operand name = ap (λ l. gathered found l) (append-nil (breaking 26 (rule_26 s (a_dot operand name)) ++ (breaking 27 (rule_27 s (a_dot operand name)) ++ []))) ∙ behind_2 found (breaking 26 (rule_26 s (a_dot operand name))) (breaking 27 (rule_27 s (a_dot operand name)))

pub noted-method_call : (found : Option Broken) (s : Scope) (operand : Tree) (name : ℕ) (arguments : Tree) → noted found (site s (a_method_call operand name arguments) ∷ []) ≡ gathered found (breaking 41 (rule_41 s (a_method_call operand name arguments)))
unfolding noted
noted-method_call found s operand name arguments = ap (λ l. gathered found l) (append-nil (breaking 41 (rule_41 s (a_method_call operand name arguments)) ++ [])) ∙ behind_1 found (breaking 41 (rule_41 s (a_method_call operand name arguments)))

pub noted-index : (found : Option Broken) (s : Scope) (operand : Tree) (index : Tree) → noted found (site s (an_index operand index) ∷ []) ≡ gathered (gathered (gathered (gathered found (breaking 28 (rule_28 s (an_index operand index)))) (breaking 29 (rule_29 s (an_index operand index)))) (breaking 30 (rule_30 s (an_index operand index)))) (breaking 31 (rule_31 s (an_index operand index)))
unfolding noted
noted-index found s operand index = ap (λ l. gathered found l) (append-nil (breaking 28 (rule_28 s (an_index operand index)) ++ (breaking 29 (rule_29 s (an_index operand index)) ++ (breaking 30 (rule_30 s (an_index operand index)) ++ (breaking 31 (rule_31 s (an_index operand index)) ++ []))))) ∙ behind_4 found (breaking 28 (rule_28 s (an_index operand index))) (breaking 29 (rule_29 s (an_index operand index))) (breaking 30 (rule_30 s (an_index operand index))) (breaking 31 (rule_31 s (an_index operand index)))

pub noted-constructor : (found : Option Broken) (s : Scope) (at : ℕ) (basic : Tree) (arguments : Tree) → noted found (site s (a_constructor at basic arguments) ∷ []) ≡ gathered found (breaking 33 (rule_33 s (a_constructor at basic arguments)))
unfolding noted
noted-constructor found s at basic arguments = ap (λ l. gathered found l) (append-nil (breaking 33 (rule_33 s (a_constructor at basic arguments)) ++ [])) ∙ behind_1 found (breaking 33 (rule_33 s (a_constructor at basic arguments)))

pub noted-cast : (found : Option Broken) (s : Scope) (at : ℕ) (basic : Tree) (operand : Tree) → noted found (site s (a_cast at basic operand) ∷ []) ≡ gathered found (breaking 34 (rule_34 s (a_cast at basic operand)))
unfolding noted
noted-cast found s at basic operand = ap (λ l. gathered found l) (append-nil (breaking 34 (rule_34 s (a_cast at basic operand)) ++ [])) ∙ behind_1 found (breaking 34 (rule_34 s (a_cast at basic operand)))

pub noted-condition : (found : Option Broken) (s : Scope) (condition : Tree) → noted found (site s (a_condition condition) ∷ []) ≡ gathered found (breaking 22 (rule_22 s (a_condition condition)))
unfolding noted
noted-condition found s condition = ap (λ l. gathered found l) (append-nil (breaking 22 (rule_22 s (a_condition condition)) ++ [])) ∙ behind_1 found (breaking 22 (rule_22 s (a_condition condition)))

pub noted-loop_jump : (found : Option Broken) (s : Scope) (at : ℕ) → noted found (site s (a_loop_jump at) ∷ []) ≡ gathered found (breaking 19 (rule_19 s (a_loop_jump at)))
unfolding noted
noted-loop_jump found s at = ap (λ l. gathered found l) (append-nil (breaking 19 (rule_19 s (a_loop_jump at)) ++ [])) ∙ behind_1 found (breaking 19 (rule_19 s (a_loop_jump at)))

pub noted-return : (found : Option Broken) (s : Scope) (at : ℕ) (result : Maybe) → noted found (site s (a_return at result) ∷ []) ≡ gathered found (breaking 20 (rule_20 s (a_return at result)))
unfolding noted
noted-return found s at result = ap (λ l. gathered found l) (append-nil (breaking 20 (rule_20 s (a_return at result)) ++ [])) ∙ behind_1 found (breaking 20 (rule_20 s (a_return at result)))

pub noted-statement_attribute : (found : Option Broken) (s : Scope) (name : ℕ) (at : ℕ) (arguments : Trees) → noted found (site s (a_statement_attribute name at arguments) ∷ []) ≡ gathered found (breaking 23 (rule_23 s (a_statement_attribute name at arguments)))
unfolding noted
noted-statement_attribute found s name at arguments = ap (λ l. gathered found l) (append-nil (breaking 23 (rule_23 s (a_statement_attribute name at arguments)) ++ [])) ∙ behind_1 found (breaking 23 (rule_23 s (a_statement_attribute name at arguments)))

pub noted-function_attribute : (found : Option Broken) (s : Scope) (again : Bool) (name : ℕ) (at : ℕ) (arguments : Trees) → noted found (site s (a_function_attribute again name at arguments) ∷ []) ≡ gathered (gathered (gathered found (breaking 14 (rule_14 s (a_function_attribute again name at arguments)))) (breaking 15 (rule_15 s (a_function_attribute again name at arguments)))) (breaking 23 (rule_23 s (a_function_attribute again name at arguments)))
unfolding noted
noted-function_attribute found s again name at arguments = ap (λ l. gathered found l) (append-nil (breaking 14 (rule_14 s (a_function_attribute again name at arguments)) ++ (breaking 15 (rule_15 s (a_function_attribute again name at arguments)) ++ (breaking 23 (rule_23 s (a_function_attribute again name at arguments)) ++ [])))) ∙ behind_3 found (breaking 14 (rule_14 s (a_function_attribute again name at arguments))) (breaking 15 (rule_15 s (a_function_attribute again name at arguments))) (breaking 23 (rule_23 s (a_function_attribute again name at arguments)))

pub noted-local_name : (found : Option Broken) (s : Scope) (name : ℕ) → noted found (site s (a_local_name name) ∷ []) ≡ gathered found (breaking 2 (rule_2 s (a_local_name name)))
unfolding noted
noted-local_name found s name = ap (λ l. gathered found l) (append-nil (breaking 2 (rule_2 s (a_local_name name)) ++ [])) ∙ behind_1 found (breaking 2 (rule_2 s (a_local_name name)))

pub noted-global_name : (found : Option Broken) (s : Scope) (name : ℕ) → noted found (site s (a_global_name name) ∷ []) ≡ gathered found (breaking 1 (rule_1 s (a_global_name name)))
unfolding noted
noted-global_name found s name = ap (λ l. gathered found l) (append-nil (breaking 1 (rule_1 s (a_global_name name)) ++ [])) ∙ behind_1 found (breaking 1 (rule_1 s (a_global_name name)))

pub noted-type_name : (found : Option Broken) (s : Scope) (at : ℕ) → noted found (site s (a_type_name at) ∷ []) ≡ gathered (gathered found (breaking 3 (rule_3 s (a_type_name at)))) (breaking 4 (rule_4 s (a_type_name at)))
unfolding noted
noted-type_name found s at = ap (λ l. gathered found l) (append-nil (breaking 3 (rule_3 s (a_type_name at)) ++ (breaking 4 (rule_4 s (a_type_name at)) ++ []))) ∙ behind_2 found (breaking 3 (rule_3 s (a_type_name at))) (breaking 4 (rule_4 s (a_type_name at)))

pub noted-length : (found : Option Broken) (s : Scope) (before : ℕ) (size : Tree) → noted found (site s (a_length before size) ∷ []) ≡ gathered found (breaking 6 (rule_6 s (a_length before size)))
unfolding noted
noted-length found s before size = ap (λ l. gathered found l) (append-nil (breaking 6 (rule_6 s (a_length before size)) ++ [])) ∙ behind_1 found (breaking 6 (rule_6 s (a_length before size)))

pub noted-declared : (found : Option Broken) (s : Scope) (name : ℕ) (ty : Option Ty) → noted found (site s (a_declared name ty) ∷ []) ≡ gathered found (breaking 42 (rule_42 s (a_declared name ty)))
unfolding noted
noted-declared found s name ty = ap (λ l. gathered found l) (append-nil (breaking 42 (rule_42 s (a_declared name ty)) ++ [])) ∙ behind_1 found (breaking 42 (rule_42 s (a_declared name ty)))

pub noted-member_name : (found : Option Broken) (s : Scope) (before : List MemberInfo) (name : ℕ) → noted found (site s (a_member_name before name) ∷ []) ≡ gathered found (breaking 5 (rule_5 s (a_member_name before name)))
unfolding noted
noted-member_name found s before name = ap (λ l. gathered found l) (append-nil (breaking 5 (rule_5 s (a_member_name before name)) ++ [])) ∙ behind_1 found (breaking 5 (rule_5 s (a_member_name before name)))

pub noted-whole_struct : (found : Option Broken) (s : Scope) (name : ℕ) (words : Option ℕ) → noted found (site s (a_whole_struct name words) ∷ []) ≡ gathered found (breaking 42 (rule_42 s (a_whole_struct name words)))
unfolding noted
noted-whole_struct found s name words = ap (λ l. gathered found l) (append-nil (breaking 42 (rule_42 s (a_whole_struct name words)) ++ [])) ∙ behind_1 found (breaking 42 (rule_42 s (a_whole_struct name words)))

pub noted-element : (found : Option Broken) (s : Scope) (type : Tree) → noted found (site s (an_element type) ∷ []) ≡ gathered found (breaking 7 (rule_7 s (an_element type)))
unfolding noted
noted-element found s type = ap (λ l. gathered found l) (append-nil (breaking 7 (rule_7 s (an_element type)) ++ [])) ∙ behind_1 found (breaking 7 (rule_7 s (an_element type)))

pub noted-register : (found : Option Broken) (s : Scope) (writable : Bool) (name : ℕ) → noted found (site s (a_register writable name) ∷ []) ≡ gathered found (breaking 8 (rule_8 s (a_register writable name)))
unfolding noted
noted-register found s writable name = ap (λ l. gathered found l) (append-nil (breaking 8 (rule_8 s (a_register writable name)) ++ [])) ∙ behind_1 found (breaking 8 (rule_8 s (a_register writable name)))

pub noted-space : (found : Option Broken) (s : Scope) (name : ℕ) → noted found (site s (a_space name) ∷ []) ≡ gathered found (breaking 8 (rule_8 s (a_space name)))
unfolding noted
noted-space found s name = ap (λ l. gathered found l) (append-nil (breaking 8 (rule_8 s (a_space name)) ++ [])) ∙ behind_1 found (breaking 8 (rule_8 s (a_space name)))

pub noted-constant_init : (found : Option Broken) (s : Scope) (init : Tree) → noted found (site s (a_constant_init init) ∷ []) ≡ gathered found (breaking 9 (rule_9 s (a_constant_init init)))
unfolding noted
noted-constant_init found s init = ap (λ l. gathered found l) (append-nil (breaking 9 (rule_9 s (a_constant_init init)) ++ [])) ∙ behind_1 found (breaking 9 (rule_9 s (a_constant_init init)))

pub noted-brace_init : (found : Option Broken) (s : Scope) (init : Tree) (ty : Option Ty) → noted found (site s (a_brace_init init ty) ∷ []) ≡ gathered found (breaking 10 (rule_10 s (a_brace_init init ty)))
unfolding noted
noted-brace_init found s init ty = ap (λ l. gathered found l) (append-nil (breaking 10 (rule_10 s (a_brace_init init ty)) ++ [])) ∙ behind_1 found (breaking 10 (rule_10 s (a_brace_init init ty)))

pub noted-whole_function : (found : Option Broken) (s : Scope) (attributes : Trees) (result : Tree) (name : ℕ) (params : Trees) (block : Tree) → noted found (site s (a_whole_function attributes result name params block) ∷ []) ≡ gathered (gathered (gathered (gathered (gathered (gathered (gathered found (breaking 1 (rule_1 s (a_whole_function attributes result name params block)))) (breaking 11 (rule_11 s (a_whole_function attributes result name params block)))) (breaking 12 (rule_12 s (a_whole_function attributes result name params block)))) (breaking 13 (rule_13 s (a_whole_function attributes result name params block)))) (breaking 14 (rule_14 s (a_whole_function attributes result name params block)))) (breaking 16 (rule_16 s (a_whole_function attributes result name params block)))) (breaking 21 (rule_21 s (a_whole_function attributes result name params block)))
unfolding noted
noted-whole_function found s attributes result name params block = ap (λ l. gathered found l) (append-nil (breaking 1 (rule_1 s (a_whole_function attributes result name params block)) ++ (breaking 11 (rule_11 s (a_whole_function attributes result name params block)) ++ (breaking 12 (rule_12 s (a_whole_function attributes result name params block)) ++ (breaking 13 (rule_13 s (a_whole_function attributes result name params block)) ++ (breaking 14 (rule_14 s (a_whole_function attributes result name params block)) ++ (breaking 16 (rule_16 s (a_whole_function attributes result name params block)) ++ (breaking 21 (rule_21 s (a_whole_function attributes result name params block)) ++ [])))))))) ∙ behind_7 found (breaking 1 (rule_1 s (a_whole_function attributes result name params block))) (breaking 11 (rule_11 s (a_whole_function attributes result name params block))) (breaking 12 (rule_12 s (a_whole_function attributes result name params block))) (breaking 13 (rule_13 s (a_whole_function attributes result name params block))) (breaking 14 (rule_14 s (a_whole_function attributes result name params block))) (breaking 16 (rule_16 s (a_whole_function attributes result name params block))) (breaking 21 (rule_21 s (a_whole_function attributes result name params block)))

pub noted-entry_param : (found : Option Broken) (s : Scope) (before : Trees) (param : Tree) → noted found (site s (an_entry_param before param) ∷ []) ≡ gathered found (breaking 17 (rule_17 s (an_entry_param before param)))
unfolding noted
noted-entry_param found s before param = ap (λ l. gathered found l) (append-nil (breaking 17 (rule_17 s (an_entry_param before param)) ++ [])) ∙ behind_1 found (breaking 17 (rule_17 s (an_entry_param before param)))

pub noted-end : (found : Option Broken) (s : Scope) → noted found (site s an_end ∷ []) ≡ gathered found (breaking 13 (rule_13 s an_end))
unfolding noted
noted-end found s = ap (λ l. gathered found l) (append-nil (breaking 13 (rule_13 s an_end) ++ [])) ∙ behind_1 found (breaking 13 (rule_13 s an_end))
