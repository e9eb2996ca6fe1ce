use Rattle.std.proofs.Common.{◌≡◌, ap, sym, ◌∙◌, string_bytes}
use Rattle.std.specs.declared.cmp.Ordering.TheVariants.{Less, Equal, Greater}
use Rattle.cedar_types.proofs.EntriesLeftSteps.{IsPast-next, IsPast-found, IsPast-missed, IsPast-none, IsPast-passed, entries_left-first, entries_left-none, entries_left-next}
use Rattle.cedar_types.proofs.entries_left.EntriesLeft.value_at.Goals as goal
use Rattle.cedar_types.specs.Words.{entries_left, text_cmp, value_at}

-- an entry of a name before is passed
pub loop-self-preserved : goal.loop-self-preserved
loop-self-preserved c =
    let name = c.args.name.now in
    let all = entries_left c.args.self.now in
    let less : text_cmp (string_bytes c.in-Some.key.now) name ≡ Less =
    ap (λ text. text_cmp text name) (sym c.as_str.ensures.value) ∙ (sym c.cmp.ensures ∙ c.in-Less.is) in
    rw (entries_left-next c.loop-self.self.rest c.next-self.result c.next-self.new.self c.next-self.ensures.steps) (IsPast-next name all (c.in-Some.key.now, c.in-Some.value.now) c.loop-self.self.rest
    (rw (entries_left-first c.loop-self.self (c.in-Some.key, c.in-Some.value) c.in-Some.is) at c.loop-self.invariant) less)

-- an entry of the name has the value
pub returns-in-Equal-clause-value : goal.returns-in-Equal-clause-value
returns-in-Equal-clause-value c =
    let name = c.args.name.now in
    let all = entries_left c.args.self.now in
    let equal : text_cmp (string_bytes c.in-Some.key.now) name ≡ Equal =
    ap (λ text. text_cmp text name) (sym c.as_str.ensures.value) ∙ (sym c.cmp.ensures ∙ c.in-Equal.is) in
    IsPast-found name all (c.in-Some.key.now, c.in-Some.value.now) c.loop-self.self.rest
    (rw (entries_left-first c.loop-self.self (c.in-Some.key, c.in-Some.value) c.in-Some.is) at c.loop-self.invariant) equal

-- past the place of the name it isn't there
pub returns-in-Greater-clause-value : goal.returns-in-Greater-clause-value
returns-in-Greater-clause-value c =
    let name = c.args.name.now in
    let all = entries_left c.args.self.now in
    let greater : text_cmp (string_bytes c.in-Some.key.now) name ≡ Greater =
    ap (λ text. text_cmp text name) (sym c.as_str.ensures.value) ∙ (sym c.cmp.ensures ∙ c.in-Greater.is) in
    IsPast-missed name all (c.in-Some.key.now, c.in-Some.value.now) c.loop-self.self.rest
    (rw (entries_left-first c.loop-self.self (c.in-Some.key, c.in-Some.value) c.in-Some.is) at c.loop-self.invariant) greater

-- where no entry is left, it isn't there
pub returns-clause-value : goal.returns-clause-value
returns-clause-value c =
    let name = c.args.name.now in
    let all = entries_left c.args.self.now in
    IsPast-none name all (rw (entries_left-none c.loop-self.self c.in_default.is) at c.loop-self.invariant)

-- what was passed changes nothing for the names after, where the name is there
pub returns-in-Equal-clause-passes : goal.returns-in-Equal-clause-passes
returns-in-Equal-clause-passes c =
    let name = c.args.name.now in
    let all = entries_left c.args.self.now in
    let equal : text_cmp (string_bytes c.in-Some.key.now) name ≡ Equal =
    ap (λ text. text_cmp text name) (sym c.as_str.ensures.value) ∙ (sym c.cmp.ensures ∙ c.in-Equal.is) in
    let is = entries_left-first c.loop-self.self (c.in-Some.key, c.in-Some.value) c.in-Some.is in
    let passed = IsPast-passed name all (c.in-Some.key.now, c.in-Some.value.now) c.loop-self.self.rest
    (rw is at c.loop-self.invariant) (λ less. absurd cc) in
    λ other below. ap (value_at other) is ∙ passed other below

-- nor where it isn't
pub returns-in-Greater-clause-passes : goal.returns-in-Greater-clause-passes
returns-in-Greater-clause-passes c =
    let name = c.args.name.now in
    let all = entries_left c.args.self.now in
    let greater : text_cmp (string_bytes c.in-Some.key.now) name ≡ Greater =
    ap (λ text. text_cmp text name) (sym c.as_str.ensures.value) ∙ (sym c.cmp.ensures ∙ c.in-Greater.is) in
    let is = entries_left-first c.loop-self.self (c.in-Some.key, c.in-Some.value) c.in-Some.is in
    let passed = IsPast-passed name all (c.in-Some.key.now, c.in-Some.value.now) c.loop-self.self.rest
    (rw is at c.loop-self.invariant) (λ less. absurd cc) in
    λ other below. ap (value_at other) is ∙ passed other below
