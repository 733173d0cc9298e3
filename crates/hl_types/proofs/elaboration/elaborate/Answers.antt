use Rattle.hl_lexer.specs.Tokens.{lexemes_of}
use Rattle.hl_parser.specs.Views.{plain_of}
use Rattle.hl_meaning.specs.Held.{plain_program}
use Rattle.hl_types.proofs.ProgramLemmas.{breaks, elaborated, free, never_none, parts-fit, same_fault}
use Rattle.hl_types.proofs.elaboration.elaborate.Goals as goal

pub whole-requires : goal.whole-requires
whole-requires c =
    let nothing = free (plain_of c.args.tree.now) (lexemes_of c.args.tokens.now) c.args.entry.now c.parts_of.new.found c.in_ok-parts.ensures.found c.one_first.ensures c.in-None.is in
    parts-fit (plain_of c.args.tree.now) (lexemes_of c.args.tokens.now) c.args.tokens.now.end c.args.entry.now c.requires c.free_is_well_formed.ensures nothing
    c.in_ok-parts.parts (c.in_ok-parts.ensures.made c.in-None.is) c.in-Some-parts.parts c.in-Some-parts.is

pub unreachable-requires : goal.unreachable-requires
unreachable-requires c =
    let nothing = free (plain_of c.args.tree.now) (lexemes_of c.args.tokens.now) c.args.entry.now c.parts_of.new.found c.in_ok-parts.ensures.found c.one_first.ensures c.in-None.is in
    never_none (plain_of c.args.tree.now) (lexemes_of c.args.tokens.now) c.args.tokens.now.end c.args.entry.now c.requires c.free_is_well_formed.ensures nothing
    c.in_ok-parts.parts (c.in_ok-parts.ensures.made c.in-None.is) c.in-None-parts.is

pub returns-in-Some-clause-every_program : goal.returns-in-Some-clause-every_program
returns-in-Some-clause-every_program c = λ program h.
    let first = breaks (plain_of c.args.tree.now) (lexemes_of c.args.tokens.now) c.args.entry.now c.parts_of.new.found c.in_ok-parts.ensures.found c.one_first.ensures c.in-Some.field-0 c.in-Some.is in
    absurd (h.free c.in-Some.field-0.at c.in-Some.field-0.rule first.breaks)

pub returns-in-Some-clause-fault : goal.returns-in-Some-clause-fault
returns-in-Some-clause-fault c =
    breaks (plain_of c.args.tree.now) (lexemes_of c.args.tokens.now) c.args.entry.now c.parts_of.new.found c.in_ok-parts.ensures.found c.one_first.ensures c.in-Some.field-0 c.in-Some.is

pub returns-in-Some-clause-every_fault : goal.returns-in-Some-clause-every_fault
returns-in-Some-clause-every_fault c = λ at rule other.
    let first = breaks (plain_of c.args.tree.now) (lexemes_of c.args.tokens.now) c.args.entry.now c.parts_of.new.found c.in_ok-parts.ensures.found c.one_first.ensures c.in-Some.field-0 c.in-Some.is in
    same_fault c.at_most_one_first.ensures (plain_of c.args.tree.now) (lexemes_of c.args.tokens.now) c.args.entry.now c.in-Some.field-0.at c.in-Some.field-0.rule at rule first other

pub returns-in-Some-parts-clause-program : goal.returns-in-Some-parts-clause-program
returns-in-Some-parts-clause-program c =
    let nothing = free (plain_of c.args.tree.now) (lexemes_of c.args.tokens.now) c.args.entry.now c.parts_of.new.found c.in_ok-parts.ensures.found c.one_first.ensures c.in-None.is in
    elaborated (plain_of c.args.tree.now) (lexemes_of c.args.tokens.now) c.args.tokens.now.end c.args.entry.now c.requires c.free_is_well_formed.ensures nothing
    c.in_ok-parts.parts (c.in_ok-parts.ensures.made c.in-None.is) c.in-Some-parts.parts (plain_program c.whole.result) c.in-Some-parts.is c.whole.ensures

pub returns-in-Some-parts-clause-every_fault : goal.returns-in-Some-parts-clause-every_fault
returns-in-Some-parts-clause-every_fault c = λ at rule first.
    absurd (free (plain_of c.args.tree.now) (lexemes_of c.args.tokens.now) c.args.entry.now c.parts_of.new.found c.in_ok-parts.ensures.found c.one_first.ensures c.in-None.is at rule first.breaks)
