use Rattle.std.proofs.Common.{refl}
use Rattle.std.specs.Hash.{le_bytes}
use Rattle.cedar_schema_ast.proofs.theorems.reference_types_feed_their_variant.Goals as goal
use Rattle.cedar_schema_ast.specs.Words.{Common, CommonOrEntity, Entity, FeedsVariantFirst, ReferenceType}
use Rattle.cedar_schema_ast.specs.contracts.json_schema.reference_type.ReferenceTypeHash.TheImpl as reference_type_hash

-- a reference type is fed as its variant
kinds_feed : FeedsVariantFirst (λ (kind : ReferenceType). kind) (reference_type_hash.ghosts).hash_input
unfolding le_bytes
kinds_feed Common Common same = refl
kinds_feed Entity Entity same = refl
kinds_feed CommonOrEntity CommonOrEntity same = refl
kinds_feed _ _ same = absurd cc

pub returns : goal.returns
returns c = kinds_feed
