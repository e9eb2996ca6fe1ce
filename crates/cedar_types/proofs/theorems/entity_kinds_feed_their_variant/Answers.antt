use Rattle.std.proofs.Common.{refl}
use Rattle.std.specs.Hash.{le_bytes}
use Rattle.cedar_types.proofs.theorems.entity_kinds_feed_their_variant.Goals as goal
use Rattle.cedar_types.specs.Words.{FeedsVariantFirst, is_of_union}
use Rattle.cedar_types.specs.contracts.entity_kind.EntityKindHash.TheImpl as kind_hash
use Rattle.cedar_types.specs.declared.entity_kind.EntityKind.TheVariants as kind

-- a kind is fed as its variant first
kinds_feed : FeedsVariantFirst is_of_union (kind_hash.ghosts).hash_input
unfolding le_bytes
kinds_feed kind.AnyEntity kind.AnyEntity same = refl
kinds_feed (kind.Entity a) (kind.Entity b) same = refl
kinds_feed _ _ same = absurd cc

pub returns : goal.returns
returns c = kinds_feed
