-- The kinds of types, and joins of types of unlike kinds.
use Rattle.std.proofs.Common.{◌≡◌, ◌≢◌, ℕ, refl, sym, ap, ◌∙◌, arith, Bool, Option}
use Rattle.std.specs.declared.alloc.Global.{Global}
use Rattle.std.specs.declared.rc.Rc.{Rc}
use Rattle.cedar_type_rules.proofs.AnsweredLemmas.{unlike_shapes}
use Rattle.cedar_type_rules.specs.declared.join_error.LubHelp.TheVariants as help
use Rattle.cedar_types.proofs.EqualityLaws.{layer_shape, shape-folded_layer}
use Rattle.cedar_types.specs.Words.{AttributeType, Attributes, Below, BoolType, EntityKind, Fields, HaveOwnBound, IsHelp, OpenTag, PlainName, Ty, «Type», ValidationMode, any_entity, any_set, attribute_step, attributes_step, extension_of, fold-roll-Type, kind_rank, long, never, out-Type, record_of, roll-Type, roll-out-Type, set_of, text, truth, ty_of, type_step, union_of}
use Rattle.cedar_types.specs.declared.types.Type.TheOpen as layer
use Rattle.cedar_types.specs.declared.types.Type.TheVariants as type

-- two kinds, as numbers, whose types join in no mode where none is below the other
pub record IsUnlike (m n : ℕ) : Type 0 where
  pub truths : m ≡ 1 → n ≢ 1
  pub entities : m ≡ 4 → (n ≢ 4) × (n ≢ 6)
  pub sets : m ≡ 5 → n ≢ 5
  pub records : m ≡ 6 → (n ≢ 6) × (n ≢ 4)

-- a right refusal without a help
abbrev IsRefused : ValidationMode → Ty → Ty → Type 0
IsRefused mode a b = ¬ HaveOwnBound mode a b × IsHelp mode a b help.None

-- different extension types have no own bound
extensions_refused : (mode : ValidationMode) (a b : PlainName) → a ≢ b → IsRefused mode (extension_of a) (extension_of b)
extensions_refused mode a b differ = (no_bound, refl)
  where
    no_bound : ¬ HaveOwnBound mode (extension_of a) (extension_of b)
    no_bound (extension_of name, own) = differ (own.0.0 ∙ sym own.0.1.0)
    no_bound (bound, own) = elim own.0.0 [ ]

-- types of unlike kinds of which none is below the other have no join, and no help
pub unlike_refused : (mode : ValidationMode) (a b : Ty) → ¬ Below mode a b → ¬ Below mode b a
    → IsUnlike (kind_rank a) (kind_rank b) → IsRefused mode a b
unlike_refused mode never b first second unlike = absurd (first tt)
unlike_refused mode a never first second unlike = absurd (second tt)
unlike_refused mode (truth a) (truth b) first second unlike = absurd (unlike.truths refl refl)
unlike_refused mode long long first second unlike = absurd (first tt)
unlike_refused mode text text first second unlike = absurd (first tt)
unlike_refused mode any_entity any_entity first second unlike = absurd (first tt)
unlike_refused mode any_entity (union_of b) first second unlike = absurd ((unlike.entities refl).0 refl)
unlike_refused mode (union_of a) any_entity first second unlike = absurd ((unlike.entities refl).0 refl)
unlike_refused mode (union_of a) (union_of b) first second unlike = absurd ((unlike.entities refl).0 refl)
unlike_refused mode any_set any_set first second unlike = absurd (first tt)
unlike_refused mode any_set (set_of b) first second unlike = absurd (unlike.sets refl refl)
unlike_refused mode (set_of a) any_set first second unlike = absurd (unlike.sets refl refl)
unlike_refused mode (set_of a) (set_of b) first second unlike = absurd (unlike.sets refl refl)
unlike_refused mode (record_of a s) (record_of b t) first second unlike = absurd ((unlike.records refl).0 refl)
unlike_refused mode any_entity (record_of b t) first second unlike = absurd ((unlike.entities refl).1 refl)
unlike_refused mode (union_of a) (record_of b t) first second unlike = absurd ((unlike.entities refl).1 refl)
unlike_refused mode (record_of a s) any_entity first second unlike = absurd ((unlike.records refl).1 refl)
unlike_refused mode (record_of a s) (union_of b) first second unlike = absurd ((unlike.records refl).1 refl)
unlike_refused mode (extension_of a) (extension_of b) first second unlike = extensions_refused mode a b first
unlike_refused mode a b first second unlike =
    (unlike_shapes mode a b (λ e. absurd cc) (λ e. absurd cc) (λ e. absurd cc), refl)

-- the kind of what a type stands for is that of its layer
place_rolled : (x : layer.Type-F «Type» AttributeType Attributes) → kind_rank (ty_of (roll-Type x)) ≡ layer_shape x
place_rolled x =
    ap kind_rank (fold-roll-Type Ty (Bool × Ty) Fields type_step attribute_step attributes_step x) ∙ shape-folded_layer x

-- the kind of a type as a number
abbrev pub place_of : «Type» → ℕ
place_of it = kind_rank (ty_of it)

-- where its layer is one, its kind is that of the layer
place_out : (it : «Type») (x : layer.Type-F «Type» AttributeType Attributes) → out-Type it ≡ x → place_of it ≡ layer_shape x
place_out it x is = ap place_of (sym (roll-out-Type it) ∙ ap roll-Type is) ∙ place_rolled x

-- truth values, entities, sets and records are of their kinds
pub place-Bool : (it : «Type») (known : BoolType) → it ≡ type.Bool known → place_of it ≡ 1
place-Bool it known is = ap place_of (is ∙ sym (type.rolls-Bool known)) ∙ place_rolled (layer.Bool known)

pub place-Entity : (it : «Type») (of : EntityKind) → it ≡ type.Entity of → place_of it ≡ 4
place-Entity it of is = ap place_of (is ∙ sym (type.rolls-Entity of)) ∙ place_rolled (layer.Entity of)

pub place-Set : (it : «Type») (element : Option (Rc «Type» Global)) → it ≡ type.Set element → place_of it ≡ 5
place-Set it element is = ap place_of (is ∙ sym (type.rolls-Set element)) ∙ place_rolled (layer.Set element)

pub place-Record : (it : «Type») (attrs : Attributes) (openness : OpenTag) → it ≡ type.Record attrs openness → place_of it ≡ 6
place-Record it attrs openness is = ap place_of (is ∙ sym (type.rolls-Record attrs openness)) ∙ place_rolled (layer.Record attrs openness)

-- a type that is none of truth values isn't of their kind
pub place-not-Bool : (it : «Type») → ((known : BoolType) → ¬ (it ≡ type.Bool known)) → place_of it ≢ 1
place-not-Bool it other e = at_layer (out-Type it) refl
  where
    at_layer : (x : layer.Type-F «Type» AttributeType Attributes) → out-Type it ≡ x → ⊥
    at_layer (layer.Bool known) is = other known (sym (roll-out-Type it) ∙ (ap roll-Type is ∙ type.rolls-Bool known))
    at_layer x is = omega (arith, e, place_out it x is)

pub place-not-Entity : (it : «Type») → ((of : EntityKind) → ¬ (it ≡ type.Entity of)) → place_of it ≢ 4
place-not-Entity it other e = at_layer (out-Type it) refl
  where
    at_layer : (x : layer.Type-F «Type» AttributeType Attributes) → out-Type it ≡ x → ⊥
    at_layer (layer.Entity of) is = other of (sym (roll-out-Type it) ∙ (ap roll-Type is ∙ type.rolls-Entity of))
    at_layer x is = omega (arith, e, place_out it x is)

pub place-not-Set : (it : «Type») → ((element : Option (Rc «Type» Global)) → ¬ (it ≡ type.Set element)) → place_of it ≢ 5
place-not-Set it other e = at_layer (out-Type it) refl
  where
    at_layer : (x : layer.Type-F «Type» AttributeType Attributes) → out-Type it ≡ x → ⊥
    at_layer (layer.Set element) is = other element (sym (roll-out-Type it) ∙ (ap roll-Type is ∙ type.rolls-Set element))
    at_layer x is = omega (arith, e, place_out it x is)

pub place-not-Record : (it : «Type») → ((attrs : Attributes) (openness : OpenTag) → ¬ (it ≡ type.Record attrs openness)) → place_of it ≢ 6
place-not-Record it other e = at_layer (out-Type it) refl
  where
    at_layer : (x : layer.Type-F «Type» AttributeType Attributes) → out-Type it ≡ x → ⊥
    at_layer (layer.Record attrs openness) is =
        other attrs openness (sym (roll-out-Type it) ∙ (ap roll-Type is ∙ type.rolls-Record attrs openness))
    at_layer x is = omega (arith, e, place_out it x is)

-- kinds that are unlike since the first is of one kind, and the second isn't of one that goes with
-- it
pub unlike-Bool : (m n : ℕ) → m ≡ 1 → n ≢ 1 → IsUnlike m n
unlike-Bool m n is other = record {
  truths = λ _. other;
  entities = λ e. absurd (omega (arith, is, e));
  sets = λ e. absurd (omega (arith, is, e));
  records = λ e. absurd (omega (arith, is, e));
}

pub unlike-Entity : (m n : ℕ) → m ≡ 4 → n ≢ 4 → n ≢ 6 → IsUnlike m n
unlike-Entity m n is other another = record {
  truths = λ e. absurd (omega (arith, is, e));
  entities = λ _. (other, another);
  sets = λ e. absurd (omega (arith, is, e));
  records = λ e. absurd (omega (arith, is, e));
}

pub unlike-Set : (m n : ℕ) → m ≡ 5 → n ≢ 5 → IsUnlike m n
unlike-Set m n is other = record {
  truths = λ e. absurd (omega (arith, is, e));
  entities = λ e. absurd (omega (arith, is, e));
  sets = λ _. other;
  records = λ e. absurd (omega (arith, is, e));
}

pub unlike-Record : (m n : ℕ) → m ≡ 6 → n ≢ 6 → n ≢ 4 → IsUnlike m n
unlike-Record m n is other another = record {
  truths = λ e. absurd (omega (arith, is, e));
  entities = λ e. absurd (omega (arith, is, e));
  sets = λ e. absurd (omega (arith, is, e));
  records = λ _. (other, another);
}

pub unlike-other : (m n : ℕ) → m ≢ 1 → m ≢ 4 → m ≢ 5 → m ≢ 6 → IsUnlike m n
unlike-other m n one four five six = record {
  truths = λ e. absurd (one e);
  entities = λ e. absurd (four e);
  sets = λ e. absurd (five e);
  records = λ e. absurd (six e);
}
