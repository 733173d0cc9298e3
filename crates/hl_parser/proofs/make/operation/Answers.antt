use Rattle.std.proofs.Common.{◌≡◌, ◌∙◌, sym, ap, arith}
use Rattle.hl_parser.specs.Trees.{a_binary}
use Rattle.hl_parser.specs.Views.{plain_of}
use Rattle.hl_parser.proofs.Plain.{plain-Or, plain-And, plain-Bitor, plain-Bitxor, plain-Bitand, plain-Equal, plain-Less, plain-Shift, plain-Sum, plain-Product}
use Rattle.hl_parser.proofs.make.operation.Goals as goal

pub returns-in-30 : goal.returns-in-30
returns-in-30 c = let o = c.args.operands in plain-Or o.at o.left o.mark o.right ∙ ap (λ l. a_binary l o.at (plain_of o.left) o.mark (plain_of o.right)) (sym c.in-30.is)

pub returns-in-31 : goal.returns-in-31
returns-in-31 c = let o = c.args.operands in plain-And o.at o.left o.mark o.right ∙ ap (λ l. a_binary l o.at (plain_of o.left) o.mark (plain_of o.right)) (sym c.in-31.is)

pub returns-in-32 : goal.returns-in-32
returns-in-32 c = let o = c.args.operands in plain-Bitor o.at o.left o.mark o.right ∙ ap (λ l. a_binary l o.at (plain_of o.left) o.mark (plain_of o.right)) (sym c.in-32.is)

pub returns-in-33 : goal.returns-in-33
returns-in-33 c = let o = c.args.operands in plain-Bitxor o.at o.left o.mark o.right ∙ ap (λ l. a_binary l o.at (plain_of o.left) o.mark (plain_of o.right)) (sym c.in-33.is)

pub returns-in-34 : goal.returns-in-34
returns-in-34 c = let o = c.args.operands in plain-Bitand o.at o.left o.mark o.right ∙ ap (λ l. a_binary l o.at (plain_of o.left) o.mark (plain_of o.right)) (sym c.in-34.is)

pub returns-in-35 : goal.returns-in-35
returns-in-35 c = let o = c.args.operands in plain-Equal o.at o.left o.mark o.right ∙ ap (λ l. a_binary l o.at (plain_of o.left) o.mark (plain_of o.right)) (sym c.in-35.is)

pub returns-in-36 : goal.returns-in-36
returns-in-36 c = let o = c.args.operands in plain-Less o.at o.left o.mark o.right ∙ ap (λ l. a_binary l o.at (plain_of o.left) o.mark (plain_of o.right)) (sym c.in-36.is)

pub returns-in-37 : goal.returns-in-37
returns-in-37 c = let o = c.args.operands in plain-Shift o.at o.left o.mark o.right ∙ ap (λ l. a_binary l o.at (plain_of o.left) o.mark (plain_of o.right)) (sym c.in-37.is)

pub returns-in-38 : goal.returns-in-38
returns-in-38 c = let o = c.args.operands in plain-Sum o.at o.left o.mark o.right ∙ ap (λ l. a_binary l o.at (plain_of o.left) o.mark (plain_of o.right)) (sym c.in-38.is)

pub returns-in_default : goal.returns-in_default
returns-in_default c =
    let level : 39 ≡ c.args.level = omega arith in
    let o = c.args.operands in plain-Product o.at o.left o.mark o.right ∙ ap (λ l. a_binary l o.at (plain_of o.left) o.mark (plain_of o.right)) level
