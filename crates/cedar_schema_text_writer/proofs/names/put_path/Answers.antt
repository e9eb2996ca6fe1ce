use Rattle.std.proofs.Common.{◌++◌, ap, sym, ◌∙◌, string_bytes}
use Rattle.cedar_ast.specs.Words.{Text, name_of}
use Rattle.cedar_schema_text_writer.proofs.Spelled.{path_text}
use Rattle.cedar_schema_text_writer.proofs.names.put_path.Goals as goal

pub returns : goal.returns
returns c =
    c.in_ok-write.ensures.bytes ∙ ap (λ (t : Text). string_bytes c.args.out.now ++ t) (sym (path_text (name_of c.args.name.now)))
