use Rattle.std.proofs.Common.{◌∙◌, sym, ap}
use Rattle.hl_parser.specs.Trees.{at_of}
use Rattle.hl_parser.specs.Views.{plain_of}
use Rattle.hl_parser.proofs.Plain.{plain-Program, plain-Item, plain-Struct, plain-Member, plain-Type, plain-Basic, plain-Declarator, plain-Buffer, plain-Kind, plain-Shared, plain-Constant, plain-Init, plain-Function, plain-Result, plain-Param, plain-Direction, plain-Attribute, plain-Block, plain-Stmt, plain-Local, plain-Start, plain-If, plain-For, plain-While, plain-Do, plain-Jump, plain-Expr, plain-Choice, plain-Or, plain-And, plain-Bitor, plain-Bitxor, plain-Bitand, plain-Equal, plain-Less, plain-Shift, plain-Sum, plain-Product, plain-Unary, plain-Postfix, plain-Primary, plain-Args}
use Rattle.hl_parser.proofs.tree.Tree.at.Goals as goal

pub returns-in-Program : goal.returns-in-Program
returns-in-Program c = sym (ap at_of (ap plain_of c.in-Program.is ∙ plain-Program c.in-Program.at c.in-Program.items))

pub returns-in-Item : goal.returns-in-Item
returns-in-Item c = sym (ap at_of (ap plain_of c.in-Item.is ∙ plain-Item c.in-Item.at c.in-Item.item))

pub returns-in-Struct : goal.returns-in-Struct
returns-in-Struct c = sym (ap at_of (ap plain_of c.in-Struct.is ∙ plain-Struct c.in-Struct.at c.in-Struct.name c.in-Struct.members))

pub returns-in-Member : goal.returns-in-Member
returns-in-Member c = sym (ap at_of (ap plain_of c.in-Member.is ∙ plain-Member c.in-Member.at c.in-Member.ty c.in-Member.declarators))

pub returns-in-Type : goal.returns-in-Type
returns-in-Type c = sym (ap at_of (ap plain_of c.in-Type.is ∙ plain-Type c.in-Type.at c.in-Type.basic))

pub returns-in-Basic : goal.returns-in-Basic
returns-in-Basic c = sym (ap at_of (ap plain_of c.in-Basic.is ∙ plain-Basic c.in-Basic.at))

pub returns-in-Declarator : goal.returns-in-Declarator
returns-in-Declarator c = sym (ap at_of (ap plain_of c.in-Declarator.is ∙ plain-Declarator c.in-Declarator.at c.in-Declarator.lengths))

pub returns-in-Buffer : goal.returns-in-Buffer
returns-in-Buffer c = sym (ap at_of (ap plain_of c.in-Buffer.is ∙ plain-Buffer c.in-Buffer.at c.in-Buffer.kind c.in-Buffer.name c.in-Buffer.register c.in-Buffer.space))

pub returns-in-Kind : goal.returns-in-Kind
returns-in-Kind c = sym (ap at_of (ap plain_of c.in-Kind.is ∙ plain-Kind c.in-Kind.at c.in-Kind.element))

pub returns-in-Shared : goal.returns-in-Shared
returns-in-Shared c = sym (ap at_of (ap plain_of c.in-Shared.is ∙ plain-Shared c.in-Shared.at c.in-Shared.ty c.in-Shared.declarators))

pub returns-in-Constant : goal.returns-in-Constant
returns-in-Constant c = sym (ap at_of (ap plain_of c.in-Constant.is ∙ plain-Constant c.in-Constant.at c.in-Constant.ty c.in-Constant.declarator c.in-Constant.init))

pub returns-in-Init : goal.returns-in-Init
returns-in-Init c = sym (ap at_of (ap plain_of c.in-Init.is ∙ plain-Init c.in-Init.at c.in-Init.value c.in-Init.parts))

pub returns-in-Function : goal.returns-in-Function
returns-in-Function c = sym (ap at_of (ap plain_of c.in-Function.is ∙ plain-Function c.in-Function.at c.in-Function.attributes c.in-Function.result c.in-Function.name c.in-Function.params c.in-Function.block))

pub returns-in-Result : goal.returns-in-Result
returns-in-Result c = sym (ap at_of (ap plain_of c.in-Result.is ∙ plain-Result c.in-Result.at c.in-Result.ty))

pub returns-in-Param : goal.returns-in-Param
returns-in-Param c = sym (ap at_of (ap plain_of c.in-Param.is ∙ plain-Param c.in-Param.at c.in-Param.constant c.in-Param.direction c.in-Param.ty c.in-Param.declarator c.in-Param.semantic))

pub returns-in-Direction : goal.returns-in-Direction
returns-in-Direction c = sym (ap at_of (ap plain_of c.in-Direction.is ∙ plain-Direction c.in-Direction.at))

pub returns-in-Attribute : goal.returns-in-Attribute
returns-in-Attribute c = sym (ap at_of (ap plain_of c.in-Attribute.is ∙ plain-Attribute c.in-Attribute.at c.in-Attribute.name c.in-Attribute.arguments))

pub returns-in-Block : goal.returns-in-Block
returns-in-Block c = sym (ap at_of (ap plain_of c.in-Block.is ∙ plain-Block c.in-Block.at c.in-Block.statements))

pub returns-in-Stmt : goal.returns-in-Stmt
returns-in-Stmt c = sym (ap at_of (ap plain_of c.in-Stmt.is ∙ plain-Stmt c.in-Stmt.at c.in-Stmt.part))

pub returns-in-Local : goal.returns-in-Local
returns-in-Local c = sym (ap at_of (ap plain_of c.in-Local.is ∙ plain-Local c.in-Local.at c.in-Local.constant c.in-Local.ty c.in-Local.starts))

pub returns-in-Start : goal.returns-in-Start
returns-in-Start c = sym (ap at_of (ap plain_of c.in-Start.is ∙ plain-Start c.in-Start.at c.in-Start.declarator c.in-Start.init))

pub returns-in-If : goal.returns-in-If
returns-in-If c = sym (ap at_of (ap plain_of c.in-If.is ∙ plain-If c.in-If.at c.in-If.attributes c.in-If.condition c.in-If.consequent c.in-If.alternative))

pub returns-in-For : goal.returns-in-For
returns-in-For c = sym (ap at_of (ap plain_of c.in-For.is ∙ plain-For c.in-For.at c.in-For.attributes c.in-For.first c.in-For.condition c.in-For.step c.in-For.body))

pub returns-in-While : goal.returns-in-While
returns-in-While c = sym (ap at_of (ap plain_of c.in-While.is ∙ plain-While c.in-While.at c.in-While.attributes c.in-While.condition c.in-While.body))

pub returns-in-Do : goal.returns-in-Do
returns-in-Do c = sym (ap at_of (ap plain_of c.in-Do.is ∙ plain-Do c.in-Do.at c.in-Do.attributes c.in-Do.body c.in-Do.condition))

pub returns-in-Jump : goal.returns-in-Jump
returns-in-Jump c = sym (ap at_of (ap plain_of c.in-Jump.is ∙ plain-Jump c.in-Jump.at c.in-Jump.value))

pub returns-in-Expr : goal.returns-in-Expr
returns-in-Expr c = sym (ap at_of (ap plain_of c.in-Expr.is ∙ plain-Expr c.in-Expr.at c.in-Expr.left c.in-Expr.mark c.in-Expr.right))

pub returns-in-Choice : goal.returns-in-Choice
returns-in-Choice c = sym (ap at_of (ap plain_of c.in-Choice.is ∙ plain-Choice c.in-Choice.at c.in-Choice.condition c.in-Choice.consequent c.in-Choice.alternative))

pub returns-in-Or : goal.returns-in-Or
returns-in-Or c = sym (ap at_of (ap plain_of c.in-Or.is ∙ plain-Or c.in-Or.at c.in-Or.left c.in-Or.mark c.in-Or.right))

pub returns-in-And : goal.returns-in-And
returns-in-And c = sym (ap at_of (ap plain_of c.in-And.is ∙ plain-And c.in-And.at c.in-And.left c.in-And.mark c.in-And.right))

pub returns-in-Bitor : goal.returns-in-Bitor
returns-in-Bitor c = sym (ap at_of (ap plain_of c.in-Bitor.is ∙ plain-Bitor c.in-Bitor.at c.in-Bitor.left c.in-Bitor.mark c.in-Bitor.right))

pub returns-in-Bitxor : goal.returns-in-Bitxor
returns-in-Bitxor c = sym (ap at_of (ap plain_of c.in-Bitxor.is ∙ plain-Bitxor c.in-Bitxor.at c.in-Bitxor.left c.in-Bitxor.mark c.in-Bitxor.right))

pub returns-in-Bitand : goal.returns-in-Bitand
returns-in-Bitand c = sym (ap at_of (ap plain_of c.in-Bitand.is ∙ plain-Bitand c.in-Bitand.at c.in-Bitand.left c.in-Bitand.mark c.in-Bitand.right))

pub returns-in-Equal : goal.returns-in-Equal
returns-in-Equal c = sym (ap at_of (ap plain_of c.in-Equal.is ∙ plain-Equal c.in-Equal.at c.in-Equal.left c.in-Equal.mark c.in-Equal.right))

pub returns-in-Less : goal.returns-in-Less
returns-in-Less c = sym (ap at_of (ap plain_of c.in-Less.is ∙ plain-Less c.in-Less.at c.in-Less.left c.in-Less.mark c.in-Less.right))

pub returns-in-Shift : goal.returns-in-Shift
returns-in-Shift c = sym (ap at_of (ap plain_of c.in-Shift.is ∙ plain-Shift c.in-Shift.at c.in-Shift.left c.in-Shift.mark c.in-Shift.right))

pub returns-in-Sum : goal.returns-in-Sum
returns-in-Sum c = sym (ap at_of (ap plain_of c.in-Sum.is ∙ plain-Sum c.in-Sum.at c.in-Sum.left c.in-Sum.mark c.in-Sum.right))

pub returns-in-Product : goal.returns-in-Product
returns-in-Product c = sym (ap at_of (ap plain_of c.in-Product.is ∙ plain-Product c.in-Product.at c.in-Product.left c.in-Product.mark c.in-Product.right))

pub returns-in-Unary : goal.returns-in-Unary
returns-in-Unary c = sym (ap at_of (ap plain_of c.in-Unary.is ∙ plain-Unary c.in-Unary.at c.in-Unary.cast c.in-Unary.operand))

pub returns-in-Postfix : goal.returns-in-Postfix
returns-in-Postfix c = sym (ap at_of (ap plain_of c.in-Postfix.is ∙ plain-Postfix c.in-Postfix.at c.in-Postfix.operand c.in-Postfix.mark c.in-Postfix.name c.in-Postfix.part))

pub returns-in-Primary : goal.returns-in-Primary
returns-in-Primary c = sym (ap at_of (ap plain_of c.in-Primary.is ∙ plain-Primary c.in-Primary.at c.in-Primary.part c.in-Primary.arguments))

pub returns-in-Args : goal.returns-in-Args
returns-in-Args c = sym (ap at_of (ap plain_of c.in-Args.is ∙ plain-Args c.in-Args.at c.in-Args.arguments))
