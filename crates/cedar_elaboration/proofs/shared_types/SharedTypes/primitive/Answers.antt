use Rattle.cedar_elaboration.proofs.PrimitiveLemmas.{told}
use Rattle.cedar_elaboration.proofs.shared_types.SharedTypes.primitive.Goals as goal
use Rattle.cedar_elaboration.specs.Words.{is_long, is_text, is_truth, ty_of}
use Rattle.cedar_schema_ast.proofs.VariantLemmas.{variant-Boolean, variant-Long, variant-String}

pub returns-in-String : goal.returns-in-String
returns-in-String g c refer =
    rw (c.in-String.is, variant-String _ refer, (told (ty_of c.args.self.now.of_strings.value)).as_text_type c.args.self.now.are_strings) is_text

pub returns-in-Long : goal.returns-in-Long
returns-in-Long g c refer =
    rw (c.in-Long.is, variant-Long _ refer, (told (ty_of c.args.self.now.of_longs.value)).as_long_type c.args.self.now.are_longs) is_long

pub returns-in-Boolean : goal.returns-in-Boolean
returns-in-Boolean g c refer =
    rw (c.in-Boolean.is, variant-Boolean _ refer, (told (ty_of c.args.self.now.of_booleans.value)).as_truth_type c.args.self.now.are_booleans) is_truth
