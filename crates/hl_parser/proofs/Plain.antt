-- The plain tree of each form.
use Rattle.std.proofs.Common.{◌≡◌, ◌∙◌, sym, ap, ℕ, List, Option, None, Some}
use Rattle.hl_parser.specs.declared.tree.Tree.{Tree, Tree-F, fold-roll-Tree}
use Rattle.hl_parser.specs.declared.tree.Tree.TheVariants.{rolls-Program, rolls-Item, rolls-Struct, rolls-Member, rolls-Type, rolls-Basic, rolls-Declarator, rolls-Buffer, rolls-Kind, rolls-Shared, rolls-Constant, rolls-Init, rolls-Function, rolls-Result, rolls-Param, rolls-Direction, rolls-Attribute, rolls-Block, rolls-Stmt, rolls-Local, rolls-Start, rolls-If, rolls-For, rolls-While, rolls-Do, rolls-Jump, rolls-Expr, rolls-Choice, rolls-Or, rolls-And, rolls-Bitor, rolls-Bitxor, rolls-Bitand, rolls-Equal, rolls-Less, rolls-Shift, rolls-Sum, rolls-Product, rolls-Unary, rolls-Postfix, rolls-Primary, rolls-Args}
use Rattle.hl_parser.specs.declared.tree.Tree.TheVariants as variants
use Rattle.hl_parser.specs.Trees.{a_basic, a_binary, a_block, a_buffer, a_choice, a_constant, a_declarator, a_direction, a_do, a_for, a_function, a_jump, a_kind, a_local, a_member, a_param, a_postfix, a_primary, a_program, a_result, a_shared, a_start, a_stmt, a_struct, a_type, a_unary, a_while, an_args, an_attribute, an_expr, an_if, an_init, an_item}
use Rattle.hl_parser.specs.Trees as plain
use Rattle.hl_parser.specs.Views.{plain_maybe, plain_of, plain_step, plain_trees}

pub plain-Program : (at : ℕ) (items : List Tree) → plain_of (variants.Program at items) ≡ a_program at (plain_trees items)
unfolding plain_of
plain-Program at items = ap plain_of (sym (rolls-Program at items)) ∙ fold-roll-Tree plain.Tree plain_step (Tree-F.Program at items)

pub plain-Item : (at : ℕ) (item : Tree) → plain_of (variants.Item at item) ≡ an_item at (plain_of item)
unfolding plain_of
plain-Item at item = ap plain_of (sym (rolls-Item at item)) ∙ fold-roll-Tree plain.Tree plain_step (Tree-F.Item at item)

pub plain-Struct : (at : ℕ) (name : ℕ) (members : List Tree) → plain_of (variants.Struct at name members) ≡ a_struct at name (plain_trees members)
unfolding plain_of
plain-Struct at name members = ap plain_of (sym (rolls-Struct at name members)) ∙ fold-roll-Tree plain.Tree plain_step (Tree-F.Struct at name members)

pub plain-Member : (at : ℕ) (ty : Tree) (declarators : List Tree) → plain_of (variants.Member at ty declarators) ≡ a_member at (plain_of ty) (plain_trees declarators)
unfolding plain_of
plain-Member at ty declarators = ap plain_of (sym (rolls-Member at ty declarators)) ∙ fold-roll-Tree plain.Tree plain_step (Tree-F.Member at ty declarators)

pub plain-Type : (at : ℕ) (basic : Option Tree) → plain_of (variants.Type at basic) ≡ a_type at (plain_maybe basic)
unfolding plain_of
plain-Type at None = ap plain_of (sym (rolls-Type at None)) ∙ fold-roll-Tree plain.Tree plain_step (Tree-F.Type at None)
plain-Type at (Some basic) = ap plain_of (sym (rolls-Type at (Some basic))) ∙ fold-roll-Tree plain.Tree plain_step (Tree-F.Type at (Some basic))

pub plain-Basic : (at : ℕ) → plain_of (variants.Basic at) ≡ a_basic at
unfolding plain_of
plain-Basic at = ap plain_of (sym (rolls-Basic at)) ∙ fold-roll-Tree plain.Tree plain_step (Tree-F.Basic at)

pub plain-Declarator : (at : ℕ) (lengths : List Tree) → plain_of (variants.Declarator at lengths) ≡ a_declarator at (plain_trees lengths)
unfolding plain_of
plain-Declarator at lengths = ap plain_of (sym (rolls-Declarator at lengths)) ∙ fold-roll-Tree plain.Tree plain_step (Tree-F.Declarator at lengths)

pub plain-Buffer : (at : ℕ) (kind : Tree) (name : ℕ) (register : Option ℕ) (space : Option ℕ) → plain_of (variants.Buffer at kind name register space) ≡ a_buffer at (plain_of kind) name register space
unfolding plain_of
plain-Buffer at kind name register space = ap plain_of (sym (rolls-Buffer at kind name register space)) ∙ fold-roll-Tree plain.Tree plain_step (Tree-F.Buffer at kind name register space)

pub plain-Kind : (at : ℕ) (element : Option Tree) → plain_of (variants.Kind at element) ≡ a_kind at (plain_maybe element)
unfolding plain_of
plain-Kind at None = ap plain_of (sym (rolls-Kind at None)) ∙ fold-roll-Tree plain.Tree plain_step (Tree-F.Kind at None)
plain-Kind at (Some element) = ap plain_of (sym (rolls-Kind at (Some element))) ∙ fold-roll-Tree plain.Tree plain_step (Tree-F.Kind at (Some element))

pub plain-Shared : (at : ℕ) (ty : Tree) (declarators : List Tree) → plain_of (variants.Shared at ty declarators) ≡ a_shared at (plain_of ty) (plain_trees declarators)
unfolding plain_of
plain-Shared at ty declarators = ap plain_of (sym (rolls-Shared at ty declarators)) ∙ fold-roll-Tree plain.Tree plain_step (Tree-F.Shared at ty declarators)

pub plain-Constant : (at : ℕ) (ty : Tree) (declarator : Tree) (init : Tree) → plain_of (variants.Constant at ty declarator init) ≡ a_constant at (plain_of ty) (plain_of declarator) (plain_of init)
unfolding plain_of
plain-Constant at ty declarator init = ap plain_of (sym (rolls-Constant at ty declarator init)) ∙ fold-roll-Tree plain.Tree plain_step (Tree-F.Constant at ty declarator init)

pub plain-Init : (at : ℕ) (value : Option Tree) (parts : List Tree) → plain_of (variants.Init at value parts) ≡ an_init at (plain_maybe value) (plain_trees parts)
unfolding plain_of
plain-Init at None parts = ap plain_of (sym (rolls-Init at None parts)) ∙ fold-roll-Tree plain.Tree plain_step (Tree-F.Init at None parts)
plain-Init at (Some value) parts = ap plain_of (sym (rolls-Init at (Some value) parts)) ∙ fold-roll-Tree plain.Tree plain_step (Tree-F.Init at (Some value) parts)

pub plain-Function : (at : ℕ) (attributes : List Tree) (result : Tree) (name : ℕ) (params : List Tree) (block : Tree) → plain_of (variants.Function at attributes result name params block) ≡ a_function at (plain_trees attributes) (plain_of result) name (plain_trees params) (plain_of block)
unfolding plain_of
plain-Function at attributes result name params block = ap plain_of (sym (rolls-Function at attributes result name params block)) ∙ fold-roll-Tree plain.Tree plain_step (Tree-F.Function at attributes result name params block)

pub plain-Result : (at : ℕ) (ty : Option Tree) → plain_of (variants.Result at ty) ≡ a_result at (plain_maybe ty)
unfolding plain_of
plain-Result at None = ap plain_of (sym (rolls-Result at None)) ∙ fold-roll-Tree plain.Tree plain_step (Tree-F.Result at None)
plain-Result at (Some ty) = ap plain_of (sym (rolls-Result at (Some ty))) ∙ fold-roll-Tree plain.Tree plain_step (Tree-F.Result at (Some ty))

pub plain-Param : (at : ℕ) (constant : Option ℕ) (direction : Option Tree) (ty : Tree) (declarator : Tree) (semantic : Option ℕ) → plain_of (variants.Param at constant direction ty declarator semantic) ≡ a_param at constant (plain_maybe direction) (plain_of ty) (plain_of declarator) semantic
unfolding plain_of
plain-Param at constant None ty declarator semantic = ap plain_of (sym (rolls-Param at constant None ty declarator semantic)) ∙ fold-roll-Tree plain.Tree plain_step (Tree-F.Param at constant None ty declarator semantic)
plain-Param at constant (Some direction) ty declarator semantic = ap plain_of (sym (rolls-Param at constant (Some direction) ty declarator semantic)) ∙ fold-roll-Tree plain.Tree plain_step (Tree-F.Param at constant (Some direction) ty declarator semantic)

pub plain-Direction : (at : ℕ) → plain_of (variants.Direction at) ≡ a_direction at
unfolding plain_of
plain-Direction at = ap plain_of (sym (rolls-Direction at)) ∙ fold-roll-Tree plain.Tree plain_step (Tree-F.Direction at)

pub plain-Attribute : (at : ℕ) (name : ℕ) (arguments : List Tree) → plain_of (variants.Attribute at name arguments) ≡ an_attribute at name (plain_trees arguments)
unfolding plain_of
plain-Attribute at name arguments = ap plain_of (sym (rolls-Attribute at name arguments)) ∙ fold-roll-Tree plain.Tree plain_step (Tree-F.Attribute at name arguments)

pub plain-Block : (at : ℕ) (statements : List Tree) → plain_of (variants.Block at statements) ≡ a_block at (plain_trees statements)
unfolding plain_of
plain-Block at statements = ap plain_of (sym (rolls-Block at statements)) ∙ fold-roll-Tree plain.Tree plain_step (Tree-F.Block at statements)

pub plain-Stmt : (at : ℕ) (part : Option Tree) → plain_of (variants.Stmt at part) ≡ a_stmt at (plain_maybe part)
unfolding plain_of
plain-Stmt at None = ap plain_of (sym (rolls-Stmt at None)) ∙ fold-roll-Tree plain.Tree plain_step (Tree-F.Stmt at None)
plain-Stmt at (Some part) = ap plain_of (sym (rolls-Stmt at (Some part))) ∙ fold-roll-Tree plain.Tree plain_step (Tree-F.Stmt at (Some part))

pub plain-Local : (at : ℕ) (constant : Option ℕ) (ty : Tree) (starts : List Tree) → plain_of (variants.Local at constant ty starts) ≡ a_local at constant (plain_of ty) (plain_trees starts)
unfolding plain_of
plain-Local at constant ty starts = ap plain_of (sym (rolls-Local at constant ty starts)) ∙ fold-roll-Tree plain.Tree plain_step (Tree-F.Local at constant ty starts)

pub plain-Start : (at : ℕ) (declarator : Tree) (init : Option Tree) → plain_of (variants.Start at declarator init) ≡ a_start at (plain_of declarator) (plain_maybe init)
unfolding plain_of
plain-Start at declarator None = ap plain_of (sym (rolls-Start at declarator None)) ∙ fold-roll-Tree plain.Tree plain_step (Tree-F.Start at declarator None)
plain-Start at declarator (Some init) = ap plain_of (sym (rolls-Start at declarator (Some init))) ∙ fold-roll-Tree plain.Tree plain_step (Tree-F.Start at declarator (Some init))

pub plain-If : (at : ℕ) (attributes : List Tree) (condition : Tree) (consequent : Tree) (alternative : Option Tree) → plain_of (variants.If at attributes condition consequent alternative) ≡ an_if at (plain_trees attributes) (plain_of condition) (plain_of consequent) (plain_maybe alternative)
unfolding plain_of
plain-If at attributes condition consequent None = ap plain_of (sym (rolls-If at attributes condition consequent None)) ∙ fold-roll-Tree plain.Tree plain_step (Tree-F.If at attributes condition consequent None)
plain-If at attributes condition consequent (Some alternative) = ap plain_of (sym (rolls-If at attributes condition consequent (Some alternative))) ∙ fold-roll-Tree plain.Tree plain_step (Tree-F.If at attributes condition consequent (Some alternative))

pub plain-For : (at : ℕ) (attributes : List Tree) (first : Option Tree) (condition : Option Tree) (step : Option Tree) (body : Tree) → plain_of (variants.For at attributes first condition step body) ≡ a_for at (plain_trees attributes) (plain_maybe first) (plain_maybe condition) (plain_maybe step) (plain_of body)
unfolding plain_of
plain-For at attributes None None None body = ap plain_of (sym (rolls-For at attributes None None None body)) ∙ fold-roll-Tree plain.Tree plain_step (Tree-F.For at attributes None None None body)
plain-For at attributes None None (Some step) body = ap plain_of (sym (rolls-For at attributes None None (Some step) body)) ∙ fold-roll-Tree plain.Tree plain_step (Tree-F.For at attributes None None (Some step) body)
plain-For at attributes None (Some condition) None body = ap plain_of (sym (rolls-For at attributes None (Some condition) None body)) ∙ fold-roll-Tree plain.Tree plain_step (Tree-F.For at attributes None (Some condition) None body)
plain-For at attributes None (Some condition) (Some step) body = ap plain_of (sym (rolls-For at attributes None (Some condition) (Some step) body)) ∙ fold-roll-Tree plain.Tree plain_step (Tree-F.For at attributes None (Some condition) (Some step) body)
plain-For at attributes (Some first) None None body = ap plain_of (sym (rolls-For at attributes (Some first) None None body)) ∙ fold-roll-Tree plain.Tree plain_step (Tree-F.For at attributes (Some first) None None body)
plain-For at attributes (Some first) None (Some step) body = ap plain_of (sym (rolls-For at attributes (Some first) None (Some step) body)) ∙ fold-roll-Tree plain.Tree plain_step (Tree-F.For at attributes (Some first) None (Some step) body)
plain-For at attributes (Some first) (Some condition) None body = ap plain_of (sym (rolls-For at attributes (Some first) (Some condition) None body)) ∙ fold-roll-Tree plain.Tree plain_step (Tree-F.For at attributes (Some first) (Some condition) None body)
plain-For at attributes (Some first) (Some condition) (Some step) body = ap plain_of (sym (rolls-For at attributes (Some first) (Some condition) (Some step) body)) ∙ fold-roll-Tree plain.Tree plain_step (Tree-F.For at attributes (Some first) (Some condition) (Some step) body)

pub plain-While : (at : ℕ) (attributes : List Tree) (condition : Tree) (body : Tree) → plain_of (variants.While at attributes condition body) ≡ a_while at (plain_trees attributes) (plain_of condition) (plain_of body)
unfolding plain_of
plain-While at attributes condition body = ap plain_of (sym (rolls-While at attributes condition body)) ∙ fold-roll-Tree plain.Tree plain_step (Tree-F.While at attributes condition body)

pub plain-Do : (at : ℕ) (attributes : List Tree) (body : Tree) (condition : Tree) → plain_of (variants.Do at attributes body condition) ≡ a_do at (plain_trees attributes) (plain_of body) (plain_of condition)
unfolding plain_of
plain-Do at attributes body condition = ap plain_of (sym (rolls-Do at attributes body condition)) ∙ fold-roll-Tree plain.Tree plain_step (Tree-F.Do at attributes body condition)

pub plain-Jump : (at : ℕ) (value : Option Tree) → plain_of (variants.Jump at value) ≡ a_jump at (plain_maybe value)
unfolding plain_of
plain-Jump at None = ap plain_of (sym (rolls-Jump at None)) ∙ fold-roll-Tree plain.Tree plain_step (Tree-F.Jump at None)
plain-Jump at (Some value) = ap plain_of (sym (rolls-Jump at (Some value))) ∙ fold-roll-Tree plain.Tree plain_step (Tree-F.Jump at (Some value))

pub plain-Expr : (at : ℕ) (left : Tree) (mark : ℕ) (right : Tree) → plain_of (variants.Expr at left mark right) ≡ an_expr at (plain_of left) mark (plain_of right)
unfolding plain_of
plain-Expr at left mark right = ap plain_of (sym (rolls-Expr at left mark right)) ∙ fold-roll-Tree plain.Tree plain_step (Tree-F.Expr at left mark right)

pub plain-Choice : (at : ℕ) (condition : Tree) (consequent : Tree) (alternative : Tree) → plain_of (variants.Choice at condition consequent alternative) ≡ a_choice at (plain_of condition) (plain_of consequent) (plain_of alternative)
unfolding plain_of
plain-Choice at condition consequent alternative = ap plain_of (sym (rolls-Choice at condition consequent alternative)) ∙ fold-roll-Tree plain.Tree plain_step (Tree-F.Choice at condition consequent alternative)

pub plain-Or : (at : ℕ) (left : Tree) (mark : ℕ) (right : Tree) → plain_of (variants.Or at left mark right) ≡ a_binary 30 at (plain_of left) mark (plain_of right)
unfolding plain_of
plain-Or at left mark right = ap plain_of (sym (rolls-Or at left mark right)) ∙ fold-roll-Tree plain.Tree plain_step (Tree-F.Or at left mark right)

pub plain-And : (at : ℕ) (left : Tree) (mark : ℕ) (right : Tree) → plain_of (variants.And at left mark right) ≡ a_binary 31 at (plain_of left) mark (plain_of right)
unfolding plain_of
plain-And at left mark right = ap plain_of (sym (rolls-And at left mark right)) ∙ fold-roll-Tree plain.Tree plain_step (Tree-F.And at left mark right)

pub plain-Bitor : (at : ℕ) (left : Tree) (mark : ℕ) (right : Tree) → plain_of (variants.Bitor at left mark right) ≡ a_binary 32 at (plain_of left) mark (plain_of right)
unfolding plain_of
plain-Bitor at left mark right = ap plain_of (sym (rolls-Bitor at left mark right)) ∙ fold-roll-Tree plain.Tree plain_step (Tree-F.Bitor at left mark right)

pub plain-Bitxor : (at : ℕ) (left : Tree) (mark : ℕ) (right : Tree) → plain_of (variants.Bitxor at left mark right) ≡ a_binary 33 at (plain_of left) mark (plain_of right)
unfolding plain_of
plain-Bitxor at left mark right = ap plain_of (sym (rolls-Bitxor at left mark right)) ∙ fold-roll-Tree plain.Tree plain_step (Tree-F.Bitxor at left mark right)

pub plain-Bitand : (at : ℕ) (left : Tree) (mark : ℕ) (right : Tree) → plain_of (variants.Bitand at left mark right) ≡ a_binary 34 at (plain_of left) mark (plain_of right)
unfolding plain_of
plain-Bitand at left mark right = ap plain_of (sym (rolls-Bitand at left mark right)) ∙ fold-roll-Tree plain.Tree plain_step (Tree-F.Bitand at left mark right)

pub plain-Equal : (at : ℕ) (left : Tree) (mark : ℕ) (right : Tree) → plain_of (variants.Equal at left mark right) ≡ a_binary 35 at (plain_of left) mark (plain_of right)
unfolding plain_of
plain-Equal at left mark right = ap plain_of (sym (rolls-Equal at left mark right)) ∙ fold-roll-Tree plain.Tree plain_step (Tree-F.Equal at left mark right)

pub plain-Less : (at : ℕ) (left : Tree) (mark : ℕ) (right : Tree) → plain_of (variants.Less at left mark right) ≡ a_binary 36 at (plain_of left) mark (plain_of right)
unfolding plain_of
plain-Less at left mark right = ap plain_of (sym (rolls-Less at left mark right)) ∙ fold-roll-Tree plain.Tree plain_step (Tree-F.Less at left mark right)

pub plain-Shift : (at : ℕ) (left : Tree) (mark : ℕ) (right : Tree) → plain_of (variants.Shift at left mark right) ≡ a_binary 37 at (plain_of left) mark (plain_of right)
unfolding plain_of
plain-Shift at left mark right = ap plain_of (sym (rolls-Shift at left mark right)) ∙ fold-roll-Tree plain.Tree plain_step (Tree-F.Shift at left mark right)

pub plain-Sum : (at : ℕ) (left : Tree) (mark : ℕ) (right : Tree) → plain_of (variants.Sum at left mark right) ≡ a_binary 38 at (plain_of left) mark (plain_of right)
unfolding plain_of
plain-Sum at left mark right = ap plain_of (sym (rolls-Sum at left mark right)) ∙ fold-roll-Tree plain.Tree plain_step (Tree-F.Sum at left mark right)

pub plain-Product : (at : ℕ) (left : Tree) (mark : ℕ) (right : Tree) → plain_of (variants.Product at left mark right) ≡ a_binary 39 at (plain_of left) mark (plain_of right)
unfolding plain_of
plain-Product at left mark right = ap plain_of (sym (rolls-Product at left mark right)) ∙ fold-roll-Tree plain.Tree plain_step (Tree-F.Product at left mark right)

pub plain-Unary : (at : ℕ) (cast : Option Tree) (operand : Tree) → plain_of (variants.Unary at cast operand) ≡ a_unary at (plain_maybe cast) (plain_of operand)
unfolding plain_of
plain-Unary at None operand = ap plain_of (sym (rolls-Unary at None operand)) ∙ fold-roll-Tree plain.Tree plain_step (Tree-F.Unary at None operand)
plain-Unary at (Some cast) operand = ap plain_of (sym (rolls-Unary at (Some cast) operand)) ∙ fold-roll-Tree plain.Tree plain_step (Tree-F.Unary at (Some cast) operand)

pub plain-Postfix : (at : ℕ) (operand : Tree) (mark : ℕ) (name : Option ℕ) (part : Option Tree) → plain_of (variants.Postfix at operand mark name part) ≡ a_postfix at (plain_of operand) mark name (plain_maybe part)
unfolding plain_of
plain-Postfix at operand mark name None = ap plain_of (sym (rolls-Postfix at operand mark name None)) ∙ fold-roll-Tree plain.Tree plain_step (Tree-F.Postfix at operand mark name None)
plain-Postfix at operand mark name (Some part) = ap plain_of (sym (rolls-Postfix at operand mark name (Some part))) ∙ fold-roll-Tree plain.Tree plain_step (Tree-F.Postfix at operand mark name (Some part))

pub plain-Primary : (at : ℕ) (part : Option Tree) (arguments : Option Tree) → plain_of (variants.Primary at part arguments) ≡ a_primary at (plain_maybe part) (plain_maybe arguments)
unfolding plain_of
plain-Primary at None None = ap plain_of (sym (rolls-Primary at None None)) ∙ fold-roll-Tree plain.Tree plain_step (Tree-F.Primary at None None)
plain-Primary at None (Some arguments) = ap plain_of (sym (rolls-Primary at None (Some arguments))) ∙ fold-roll-Tree plain.Tree plain_step (Tree-F.Primary at None (Some arguments))
plain-Primary at (Some part) None = ap plain_of (sym (rolls-Primary at (Some part) None)) ∙ fold-roll-Tree plain.Tree plain_step (Tree-F.Primary at (Some part) None)
plain-Primary at (Some part) (Some arguments) = ap plain_of (sym (rolls-Primary at (Some part) (Some arguments))) ∙ fold-roll-Tree plain.Tree plain_step (Tree-F.Primary at (Some part) (Some arguments))

pub plain-Args : (at : ℕ) (arguments : List Tree) → plain_of (variants.Args at arguments) ≡ an_args at (plain_trees arguments)
unfolding plain_of
plain-Args at arguments = ap plain_of (sym (rolls-Args at arguments)) ∙ fold-roll-Tree plain.Tree plain_step (Tree-F.Args at arguments)
