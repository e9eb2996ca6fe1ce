use Rattle.cedar_compare.proofs.theorems.keeping_is_a_preorder.Goals as goal

pub returns-clause-further : goal.returns-clause-further
returns-clause-further c extensions first second third one other = record {
  entities = λ it real of. other.entities it real (one.entities it real of);
  requests = λ it real of. other.requests it real (one.requests it real of);
}
