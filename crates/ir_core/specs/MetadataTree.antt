-- Metadata as trees: what the numbers of a module's metadata name (LLVM Language Reference, "Metadata").
use Rattle.std.specs.Prelude.{ℕ, zero, suc, List, [], ◌∷◌, map, find, Bool, false, if◌then◌else◌, Option, Some, None, option_map, slice_get, bytes_eq}
use Rattle.ir_core.specs.declared.module.Ty.{Ty}
use Rattle.ir_core.specs.declared.module.Ty.TheVariants.{Int, Pointer}
use Rattle.ir_core.specs.declared.module.ConstValue.{ConstValue}
use Rattle.ir_core.specs.declared.module.ConstValue.TheVariants as constant
use Rattle.ir_core.specs.declared.module.Meta.{Meta}
use Rattle.ir_core.specs.declared.module.Meta.TheVariants.{Chars, Value, Node}
use Rattle.ir_core.specs.declared.module.Module.{Module}
use Rattle.ir_core.specs.Values.{Value as DefinedValue, ty_eq, same_type, low_bits, constant_value, function_value, module_values}

mutual
  -- a text, an integer of a width, an undef pointer, a function by its value number, a node, or
  -- something else
  pub data Tree : Type 0 where
    a_text : List ℕ → Tree
    a_number : (width number : ℕ) → Tree
    an_undef_pointer : Tree
    a_function : (value : ℕ) → Tree
    a_node : Children → Tree
    another : Tree

  -- the parts of a node in order, each null or a tree
  pub data Children : Type 0 where
    no_children : Children
    a_null : Children → Children
    a_child : Tree → Children → Children

abbrev pub children_of : List (Option Tree) → Children
children_of [] = no_children
children_of (None ∷ parts) = a_null (children_of parts)
children_of (Some tree ∷ parts) = a_child tree (children_of parts)

-- the node of some parts
abbrev pub node : List (Option Tree) → Tree
node parts = a_node (children_of parts)

-- the tree of a constant of an integer or a pointer type
abbrev pub constant_tree : Option Ty → ConstValue → Tree
constant_tree (Some (Int width)) constant.Null = a_number width 0
constant_tree (Some (Int width)) (constant.Int n) = a_number width (low_bits width n)
constant_tree (Some (Pointer to space)) constant.Undef = an_undef_pointer
constant_tree _ _ = another

abbrev pub is_type_of_function : Option Ty → ℕ → Bool
is_type_of_function None ty = false
is_type_of_function (Some entry) ty = ty_eq entry (Pointer ty 0)

-- the tree of a value, which the metadata names with its type: one whose entry equals that of the value's own
abbrev pub value_tree : Module → (ty value : ℕ) → Option DefinedValue → Tree
value_tree m ty value (Some (constant_value c)) =
    if same_type m.types c.ty ty then constant_tree (slice_get m.types ty) c.value else another
value_tree m ty value (Some (function_value f)) =
    if is_type_of_function (slice_get m.types ty) f.ty then a_function value else another
value_tree m ty value _ = another

-- the tree of a piece of metadata, given the trees of those that it names
abbrev pub meta_tree : Module → (ℕ → Tree) → Option Meta → Tree
meta_tree m below None = another
meta_tree m below (Some (Chars text)) = a_text text
meta_tree m below (Some (Value ty value)) = value_tree m ty value (slice_get (module_values m) value)
meta_tree m below (Some (Node ids)) = node (map (option_map below) ids)

-- the tree of a metadata number, over at most so many levels
abbrev pub tree_within : ℕ → Module → ℕ → Tree
tree_within zero m number = another
tree_within (suc depth) m number = meta_tree m (tree_within depth m) (slice_get m.metas number)

-- no metadata that DXIL speaks of is deeper
abbrev pub most_levels : ℕ
most_levels = 8

-- the trees of the first named metadata with a name
abbrev pub named_trees : Module → List ℕ → Option (List Tree)
named_trees m name =
    option_map (λ named. map (tree_within most_levels m) named.ids) (find (λ named. bytes_eq named.name name) m.named)

-- the part of a node at a place, null and a missing one being something else
abbrev pub child_among : Children → ℕ → Tree
child_among no_children place = another
child_among (a_null rest) zero = another
child_among (a_null rest) (suc place) = child_among rest place
child_among (a_child tree rest) zero = tree
child_among (a_child tree rest) (suc place) = child_among rest place

abbrev pub parts : Tree → Children
parts (a_node children) = children
parts _ = no_children

abbrev pub child : Tree → ℕ → Tree
child tree place = child_among (parts tree) place

-- the number that a tree is, or 0
abbrev pub number : Tree → ℕ
number (a_number width n) = n
number _ = 0

-- the trees among a node's parts
abbrev pub trees_among : Children → List Tree
trees_among no_children = []
trees_among (a_null rest) = trees_among rest
trees_among (a_child tree rest) = tree ∷ trees_among rest
