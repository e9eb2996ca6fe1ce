use Rattle.std.proofs.Common.{map}
use Rattle.cedar_ast.specs.Words.{plain_name}
use Rattle.cedar_diagnosis.proofs.AddingLemmas.{members_give}
use Rattle.cedar_diagnosis.proofs.unknown_extensions.UnknownExtensionsFinds.find.Goals as goal
use Rattle.cedar_diagnosis.specs.Finding.{IsUnknownExtension}
use Rattle.cedar_diagnosis.specs.Lent.{declaration_of}
use Rattle.cedar_diagnosis.specs.Mentioned.{MentionsIn, extensions_in}
use Rattle.cedar_schema_semantics.specs.Words.{unknown_extension_type}

pub returns : goal.returns
returns c =
    members_give c.add_all.result (IsUnknownExtension c.args.self.now.extensions.now) (MentionsIn (declaration_of c.args.it.now).body)
    (extensions_in c.in_ok-mentions.mentions)
    (map (λ key. unknown_extension_type (plain_name key)) c.args.keys.now.keys)
    (map (λ key. unknown_extension_type (plain_name key)) c.add_all.new.keys.keys)
    c.in_ok-mentions.ensures.extensions
    (rw c.deref.ensures.value at c.add_all.ensures)
