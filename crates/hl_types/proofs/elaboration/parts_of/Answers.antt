use Rattle.std.proofs.Common.{◌≡◌, subst, List, map, None, option_map}
use Rattle.std.specs.Prelude.{IfOk, OnOk}
use Rattle.hl_lexer.specs.declared.token.Token.{Token}
use Rattle.hl_lexer.specs.Tokens.{lexeme_of, lexemes_of}
use Rattle.hl_parser.specs.Views.{plain_of}
use Rattle.hl_rules.specs.Elaboration.{program_of}
use Rattle.hl_rules.specs.Rules.{noted}
use Rattle.hl_rules.specs.Sites.{program_sites}
use Rattle.hl_types.specs.Items.{plain_parts}
use Rattle.hl_types.proofs.ProgramLemmas.{made-of, noted-none, noted-of, program-none}
use Rattle.hl_types.proofs.elaboration.parts_of.Goals as goal

pub returns-in-Program-clause-made : goal.returns-in-Program-clause-made
returns-in-Program-clause-made c =
    subst (λ (ts : List Token). IfOk c.items.result (λ made. c.items.new.found ≡ None → option_map plain_parts made ≡ program_of (map lexeme_of ts) c.args.entry.now (plain_of c.args.tree.now))) c.as_slice.ensures.value
    (made-of (map lexeme_of c.as_slice.result.now) c.args.entry.now c.args.tree.now c.in-Program.at c.in-Program.trees c.in-Program.is c.items.new.found c.items.result c.items.ensures.made)

pub returns-in-Program-clause-found : goal.returns-in-Program-clause-found
returns-in-Program-clause-found c =
    subst (λ (ts : List Token). OnOk c.items.result (c.items.new.found ≡ noted c.args.found.now (program_sites (map lexeme_of ts) c.args.entry.now (plain_of c.args.tree.now)))) c.as_slice.ensures.value
    (noted-of (map lexeme_of c.as_slice.result.now) c.args.entry.now c.args.tree.now c.in-Program.at c.in-Program.trees c.in-Program.is c.args.found.now c.items.new.found c.items.result c.items.ensures.found)

pub returns-in_default-clause-made : goal.returns-in_default-clause-made
returns-in_default-clause-made c = λ none. program-none (lexemes_of c.args.tokens.now) c.args.entry.now c.args.tree.now c.in_default.not-Program

pub returns-in_default-clause-found : goal.returns-in_default-clause-found
returns-in_default-clause-found c = noted-none (lexemes_of c.args.tokens.now) c.args.entry.now c.args.tree.now c.args.found.now c.in_default.not-Program
