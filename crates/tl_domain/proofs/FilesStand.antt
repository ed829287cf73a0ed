-- A domain file and a problem file stand for the problem that is read from them.
use Rattle.std.proofs.Common.{◌≡◌, ℕ, List, [], length, sym, ap, ◌∙◌, subst}
use Rattle.std.specs.Prelude.{Result, Ok, Err, IfOk, IfErr, OnOk}
use Rattle.tl_sexpr.specs.Tree.{FormTrees}
use Rattle.tl_syntax.specs.declared.domain.Domain.{Domain}
use Rattle.tl_syntax.specs.declared.problem.Problem.{Problem}
use Rattle.tl_syntax.specs.Kept.{DomainKeeps}
use Rattle.tl_syntax.specs.Settled.{IsInOrder}
use Rattle.tl_rules.specs.declared.rule.FormFault.{FormFault}
use Rattle.tl_rules.specs.Named.{HaveNames}
use Rattle.tl_rules.specs.Reads.{IsFirst, IsLeastFault}
use Rattle.tl_rules.specs.Rules.{Break}
use Rattle.tl_problem.specs.LawsDeclarations.{DeclareAlike}
use Rattle.tl_problem.specs.ProblemFiles.{problem_file_breaks, problem_file_meant}
use Rattle.tl_problem.specs.Problems.{IsProblemOf}
use Rattle.tl_problem.proofs.GoByDeclarations.{go_by_declarations}
use Rattle.tl_domain.specs.DomainFiles.{domain_file_breaks}
use Rattle.tl_domain.specs.DomainTrees.{DomainTree, domain_tree}
use Rattle.tl_domain.specs.MeaningOfItems.{domain_file_meant}
use Rattle.tl_domain.specs.Files.{names_of, IsRead, declared_in, problem_breaks, AreNamesOf, AreFilesOf}
use Rattle.tl_domain.specs.LawsFiles.{FilesStandForOneProblem}
use Rattle.tl_domain.proofs.NamesInOrder.{names-are-texts, names-have, one-list}

declare-alike : (d : Domain) (t : DomainTree) → domain_tree d ≡ t → DeclareAlike d (declared_in t)
declare-alike d t same = record {
  predicates = ap (λ (u : DomainTree). u.predicates) same;
  functions =
      ap (λ (u : DomainTree). u.functions) same;
}

-- what is read of the first file, under the names of both
pub read-domain : (first second : FormTrees) (names : List (List ℕ)) (d : Domain) → names ≡ names_of first second → domain_tree d ≡
    domain_file_meant names first → (HaveNames names first → DomainKeeps (length names) d) → IsRead first second (names, d)
read-domain first second names d is means keeps = record {
  names = is;
  domain = means ∙ ap (λ (ns : List (List ℕ)). domain_file_meant ns first) is;
  keeps = keeps (subst (λ (ns : List (List ℕ)). HaveNames ns first) (sym is) (names-have first second).0);
}

module _ (first second : FormTrees) (names : List (List ℕ)) (d : Domain) (read : IsRead first second (names, d)) where
  -- the names are in order, and have all symbols of the second file
  pub read-in-order : IsInOrder names
  read-in-order = subst IsInOrder (sym read.names) (names-are-texts first second).in_order

  pub read-have : HaveNames names second
  read-have = subst (λ (ns : List (List ℕ)). HaveNames ns second) (sym read.names) (names-have first second).1

  -- what forms break after a domain that was read is what they break after its file
  breaks-after : problem_file_breaks names d second ≡ problem_breaks first second
  breaks-after =
      (go_by_declarations names d (declared_in (domain_file_meant (names_of first second) first)) second (declare-alike d _ read.domain)).0
      ∙ ap (λ (ns : List (List ℕ)). problem_file_breaks ns (declared_in (domain_file_meant (names_of first second) first)) second)
      read.names

  -- the problem is the one that both files stand for
  files-stand : (p : Problem) → domain_file_breaks first ≡ [] → problem_file_breaks names d second ≡ [] → IsProblemOf names d second p →
      AreFilesOf first second p
  files-stand p lawful none of =
      let is : p.names ≡ names_of first second = of.names ∙ read.names in
      record {
        domain_lawful = lawful;
        problem_lawful = sym breaks-after ∙ none;
        names = subst (AreNamesOf first second) (sym is) (names-are-texts first second);
        domain = ap domain_tree of.domain ∙ read.domain ∙ ap (λ (ns : List (List ℕ)). domain_file_meant ns first) (sym is);
        said = of.said ∙ ap (λ (ns : List (List ℕ)). problem_file_meant ns d second) (sym of.names) ∙
            ap (λ (e : Domain). problem_file_meant p.names e second) (sym of.domain);
      }

  pub problem-stands : (result : Result Problem FormFault) → domain_file_breaks first ≡ [] →
      OnOk result (problem_file_breaks names d second ≡ []) → IfOk result (IsProblemOf names d second) →
      IfOk result (AreFilesOf first second)
  problem-stands (Ok p) lawful none of = files-stand p lawful none of
  problem-stands (Err fault) lawful none of = tt

  pub first-after : (result : Result Problem FormFault) → IfErr result (IsFirst (problem_file_breaks names d second)) →
      IfErr result (IsFirst (problem_breaks first second))
  first-after (Ok p) h = tt
  first-after (Err fault) h = subst (λ (bs : List Break). IsFirst bs fault) breaks-after h

  pub least-after : (result : Result Problem FormFault) → IfErr result (IsLeastFault (problem_file_breaks names d second)) →
      IfErr result (IsLeastFault (problem_breaks first second))
  least-after (Ok p) h = tt
  least-after (Err fault) h = subst (λ (bs : List Break). IsLeastFault bs fault) breaks-after h

pub one-problem : FilesStandForOneProblem
one-problem first second p q a b =
    let names = one-list first second p.names q.names a.names b.names in
    let domain : domain_tree p.domain ≡ domain_tree q.domain = a.domain ∙ ap (λ (ns : List (List ℕ)). domain_file_meant ns first) names ∙
    sym b.domain in
    let alike : DeclareAlike p.domain q.domain = record {
      predicates = ap (λ (t : DomainTree). t.predicates) domain;
      functions =
          ap (λ (t : DomainTree). t.functions) domain;
    } in
    record {
      names = names;
      domain = domain;
      said = a.said ∙ (go_by_declarations p.names p.domain q.domain second alike).1 ∙
          ap (λ (ns : List (List ℕ)). problem_file_meant ns q.domain second) names ∙ sym b.said;
    }
