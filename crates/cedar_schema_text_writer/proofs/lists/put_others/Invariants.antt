use Rattle.std.proofs.Common.{take}
use Rattle.cedar_schema_text_writer.specs.Pieces.{Adds, others_pieces}
use Rattle.cedar_schema_text_writer.proofs.lists.put_others.Given as goal

abbrev pub invariant-loop-item : goal.invariant-loop-item
invariant-loop-item g l = Adds l.fn.out l.out (others_pieces g.T.Item.pieces (take l.item-index l.others))
