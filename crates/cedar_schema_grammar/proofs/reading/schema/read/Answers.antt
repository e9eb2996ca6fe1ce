use Rattle.std.proofs.Common.{List, Ok, Err, map, sym, subst, Vec, Global}
use Rattle.cedar_schema_tokens.specs.Token.{Token, token_of}
use Rattle.cedar_schema_grammar.specs.declared.fault.GrammarFault.{GrammarFault}
use Rattle.cedar_schema_grammar.specs.declared.tree.Member.{Member}
use Rattle.cedar_schema_grammar.specs.Cursor.{Reads}
use Rattle.cedar_schema_grammar.specs.Exact.{Refuses}
use Rattle.cedar_schema_grammar.specs.Plain.{member_of}
use Rattle.cedar_schema_grammar.specs.Reading.{members}
use Rattle.cedar_schema_grammar.specs.Tree as plain
use Rattle.cedar_schema_grammar.proofs.Exact.{tells}
use Rattle.cedar_schema_grammar.proofs.reading.schema.read.Goals as goal

abbrev view : Vec Member Global → List plain.Member
view all = map member_of all.items

pub returns-in-Ok-clause-found : goal.returns-in-Ok-clause-found
returns-in-Ok-clause-found c =
    let P : List Token → Type 0 = λ ts. Reads view (members c.args.limit ts) (Ok c.in-Ok.members) c.read_members.new.tokens in
    (tells view c.args.limit c.args.end (map token_of c.args.tokens.now) c.read_members.new.tokens (Ok c.in-Ok.members) (subst P c.new.ensures c.in-Ok.ensures)).found

pub returns-in-Ok-clause-nests : goal.returns-in-Ok-clause-nests
returns-in-Ok-clause-nests c =
    let P : List Token → Type 0 = λ ts. Reads view (members c.args.limit ts) (Ok c.in-Ok.members) c.read_members.new.tokens in
    (tells view c.args.limit c.args.end (map token_of c.args.tokens.now) c.read_members.new.tokens (Ok c.in-Ok.members) (subst P c.new.ensures c.in-Ok.ensures)).nests

pub returns-in-Err-clause-refused : goal.returns-in-Err-clause-refused
returns-in-Err-clause-refused c =
    let P : List Token → Type 0 = λ ts. Reads view (members c.args.limit ts) (Err c.in-Err.stop) c.read_members.new.tokens in
    let Q : GrammarFault → Type 0 = Refuses c.args.limit c.args.end (map token_of c.args.tokens.now) in
    subst Q (sym c.located.ensures)
    (tells view c.args.limit c.args.end (map token_of c.args.tokens.now) c.read_members.new.tokens (Err c.in-Err.stop) (subst P c.new.ensures c.in-Err.ensures)).refused
