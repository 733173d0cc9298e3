-- The metadata of a DXIL module: what it says of resources and threads, and which metadata a compute
-- shader has (DXIL.rst, "Metadata" of the shader, of resources and of entry points).
use Rattle.std.specs.Prelude.{◌≡◌, ℕ, ◌+◌, ◌-◌, List, [], ◌∷◌, ◌++◌, map, length, replicate, Bool, ◌==◌, if◌then◌else◌, Option, Some, None, IsSome, codes, All, Contains}
use Rattle.std.specs.List.{filter, flat_map}
use Rattle.lane_core.specs.Lane.{Coordinates}
use Rattle.ir_core.specs.declared.module.Function.{Function}
use Rattle.ir_core.specs.declared.module.Module.{Module}
use Rattle.ir_core.specs.MetadataTree.{Tree, a_text, a_number, an_undef_pointer, a_function, another, Children, a_child, node, named_trees, child, parts, number, trees_among}
use Rattle.ir_core.specs.Values.{function_at}
use Rattle.ir_core.specs.Waves.{uses_waves}

-- a part that is an integer
abbrev pub integer : (width number : ℕ) → Option Tree
integer width number = Some (a_number width number)

abbrev pub i32 : ℕ → Option Tree
i32 n = integer 32 n

abbrev pub i1 : ℕ → Option Tree
i1 n = integer 1 n

-- A class of resources: its number, which is its place in the node of all resources, and what the node of one of its
-- resources has between the kind and the tags.
pub record Class : Type 0 where
  pub number : ℕ
  pub own_parts : List (Option Tree)

-- read-only buffers (SRV), which have a sample count, and writable ones (UAV), which have three flags: globally
-- coherent, with a counter, rasterizer ordered
abbrev pub read_only : Class
read_only = record { number = 0; own_parts = i32 0 ∷ [] }

abbrev pub writable : Class
writable = record { number = 1; own_parts = i1 0 ∷ i1 0 ∷ i1 0 ∷ [] }

-- the classes that a compute kernel has, in order of their numbers
abbrev pub classes : List Class
classes = read_only ∷ writable ∷ []

-- the classes that the node of all resources has a part for: constant buffers and samplers too
abbrev pub dxil_classes : ℕ
dxil_classes = 4

-- the kinds of buffers: raw and structured
abbrev pub raw_kind : ℕ
raw_kind = 11

abbrev pub structured_kind : ℕ
structured_kind = 12

-- a resource of the metadata: its class, its number in that class, its range of registers in a space,
-- its kind, and the bytes from one element to the next
pub record Resource : Type 0 where
  pub class : ℕ
  pub id : ℕ
  pub space : ℕ
  pub register : ℕ
  pub size : ℕ
  pub kind : ℕ
  pub stride : ℕ

-- a raw buffer's bytes stand one after another
abbrev pub stride_of : ℕ → Tree → ℕ
stride_of kind tags = if kind == raw_kind then 1 else number (child tags 1)

-- the parts that the nodes of all resources begin with: number, global, name, space, register, size and kind
abbrev pub common_parts : ℕ
common_parts = 7

-- where the tags of a resource stand in its node
abbrev pub tags_place : Class → ℕ
tags_place class = common_parts + length class.own_parts

-- the resource that a node says
abbrev pub resource_of : Class → Tree → Resource
resource_of class tree = record {
  class = class.number;
  id = number (child tree 0);
  space = number (child tree 3);
  register = number (child tree 4);
  size = number (child tree 5);
  kind = number (child tree 6);
  stride = stride_of (number (child tree 6)) (child tree (tags_place class));
}

abbrev pub first_tree : Option (List Tree) → Tree
first_tree (Some (tree ∷ trees)) = tree
first_tree _ = another

-- the resources of a class, which the node of all resources says
abbrev pub class_resources : Tree → Class → List Resource
class_resources tree class = map (resource_of class) (trees_among (parts (child tree class.number)))

-- the resources in order of their classes
abbrev pub resources_of : Module → List Resource
resources_of m = flat_map (class_resources (first_tree (named_trees m (codes "dx.resources")))) classes

-- the property with a tag among pairs of a tag and a property
abbrev pub property : ℕ → Children → Tree
property tag (a_child (a_number width n) (a_child value rest)) = if n == tag then value else property tag rest
property tag _ = another

-- the tags of the properties of an entry point
abbrev pub flags_tag : ℕ
flags_tag = 0

abbrev pub threads_tag : ℕ
threads_tag = 4

-- the threads of a group, as the properties of the first entry point say
abbrev pub threads_of : Module → Coordinates
threads_of m =
    let entry = first_tree (named_trees m (codes "dx.entryPoints")) in
    let threads = property threads_tag (parts (child entry 4)) in
    record { x = number (child threads 0); y = number (child threads 1); z = number (child threads 2) }

-- a resource with the name that it is declared by
pub record NamedResource : Type 0 where
  pub name : List ℕ
  pub resource : Resource

-- the tags of a resource: null for a raw buffer, and else the stride
abbrev pub tags_part : Resource → Option Tree
tags_part r = if r.kind == raw_kind then None else Some (node (i32 1 ∷ i32 r.stride ∷ []))

-- the node of a resource of a class
abbrev pub resource_node : Class → NamedResource → Tree
resource_node class named =
    let r = named.resource in
    node (i32 r.id ∷ Some an_undef_pointer ∷ Some (a_text named.name) ∷ i32 r.space ∷ i32 r.register ∷ i32 r.size ∷ i32 r.kind ∷ class.own_parts ++ tags_part r ∷ [])

-- null, or a node of trees
abbrev pub list_part : List Tree → Option Tree
list_part [] = None
list_part (tree ∷ trees) = Some (node (map Some (tree ∷ trees)))

-- the resources of a class
abbrev pub class_part : List NamedResource → Class → Option Tree
class_part resources class =
    list_part (map (resource_node class) (filter (λ named. named.resource.class == class.number) resources))

-- the node of all resources, null without any: a part for each class
abbrev pub resources_part : List NamedResource → Option Tree
resources_part [] = None
resources_part (r ∷ rs) =
    Some (node (map (class_part (r ∷ rs)) classes ++ replicate (dxil_classes - length classes) None))

-- the nodes of `dx.resources`, which is there only where a resource is declared
abbrev pub resources_nodes : Option Tree → Option (List Tree)
resources_nodes None = None
resources_nodes (Some tree) = Some (tree ∷ [])

-- 16 (raw and structured buffers) with a resource, and 524288 with a wave operation
abbrev pub shader_flags : List NamedResource → Bool → ℕ
shader_flags resources waves = resource_flag resources + (if waves then 524288 else 0)
  where
    resource_flag : List NamedResource → ℕ
    resource_flag [] = 0
    resource_flag (r ∷ rs) = 16

abbrev pub threads_node : Coordinates → Tree
threads_node threads = node (i32 threads.x ∷ i32 threads.y ∷ i32 threads.z ∷ [])

abbrev pub properties_node : ℕ → Coordinates → Tree
properties_node flags threads =
    node (i32 flags_tag ∷ integer 64 flags ∷ i32 threads_tag ∷ Some (threads_node threads) ∷ [])

-- the node of an entry point: its function, its name, no signatures, the resources, its properties
abbrev pub entry_node : ℕ → List ℕ → Option Tree → Tree → Tree
entry_node function name resources properties =
    node (Some (a_function function) ∷ Some (a_text name) ∷ None ∷ resources ∷ Some properties ∷ [])

-- the names of the metadata that a compute shader has
abbrev pub metadata_names : List (List ℕ)
metadata_names =
    codes "dx.version" ∷ codes "dx.shaderModel" ∷ codes "dx.resources" ∷ codes "dx.entryPoints" ∷ []

-- the target and the data layout of DXIL
abbrev pub dxil_triple : List ℕ
dxil_triple = codes "dxil-ms-dx"

abbrev pub dxil_layout : List ℕ
dxil_layout =
    codes "e-m:e-p:32:32-i1:32-i8:32-i16:32-i32:32-i64:64-f16:32-f32:32-f64:64-n8:16:32:64"

-- the entry point's node names a function that has the entry's name and a body
pub record IsEntryPoint (m : Module) (resources : List NamedResource) (threads : Coordinates) (entry : List ℕ) (value : ℕ) (function : Function) : Type 0 where
  pub names : function_at m value ≡ Some function
  pub name : function.name ≡ entry
  pub has_body : IsSome function.body
  pub nodes : named_trees m (codes "dx.entryPoints") ≡ Some (entry_node value entry (resources_part resources) (properties_node (shader_flags resources (uses_waves m)) threads) ∷ [])

-- a module has the target, the layout and the metadata of a compute shader of shader model 6.0 with
-- these resources, these threads a group and this entry, and no other metadata
pub record HasMetadata (m : Module) (resources : List NamedResource) (threads : Coordinates) (entry : List ℕ) : Type 0 where
  pub triple : m.triple ≡ dxil_triple
  pub layout : m.layout ≡ dxil_layout
  pub version : named_trees m (codes "dx.version") ≡ Some (node (i32 1 ∷ i32 0 ∷ []) ∷ [])
  pub shader_model : named_trees m (codes "dx.shaderModel") ≡ Some (node (Some (a_text (codes "cs")) ∷ i32 6 ∷ i32 0 ∷ []) ∷ [])
  pub resources_named : named_trees m (codes "dx.resources") ≡ resources_nodes (resources_part resources)
  pub entry_point : (value : ℕ) × (function : Function) × IsEntryPoint m resources threads entry value function
  pub no_others : All (λ named. Contains metadata_names named.name) m.named
