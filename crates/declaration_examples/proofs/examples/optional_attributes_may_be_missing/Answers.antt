use Rattle.std.proofs.Common.{zero, suc, [], ◌∷◌, refl, arith, Contains, codes}
use Rattle.cedar_type_rules.proofs.ApartLemmas.{texts_differ}
use Rattle.declaration_examples.proofs.examples.optional_attributes_may_be_missing.Goals as goal
use Rattle.declaration_examples.specs.Words.{admits_long, admits_missing, admits_no_member, admits_record, admits_there, number_value}

-- another name isn't listed
not_listed : ¬ Contains (codes "a" ∷ []) (codes "b")
not_listed (zero, below, is) = texts_differ (codes "a") (codes "b") refl is
not_listed (suc k, below, is) = omega (arith, below)

pub returns-clause-missing : goal.returns-clause-missing
returns-clause-missing c extensions = admits_record (λ name among. absurd (omega (arith, among.1))) (admits_missing refl admits_no_member)

pub returns-clause-there : goal.returns-clause-there
returns-clause-there c extensions number =
    admits_record (λ name among. among) (admits_there (number_value number) refl (admits_long number) admits_no_member)

pub returns-clause-further : goal.returns-clause-further
returns-clause-further c extensions number (admits_record listed members) = not_listed (listed (codes "b") (0, omega arith, refl))
