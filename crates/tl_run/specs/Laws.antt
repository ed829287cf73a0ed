-- What is proved below of the definitions in the promises.
use Rattle.tl_breadth.specs.Traces.{BreadthFirstEventsAreOne}
use Rattle.tl_cert.specs.Laws.{CoveredHasNone, OneNoneVerdict}
use Rattle.tl_check.specs.LawsVerdict.{OneVerdict}
use Rattle.tl_depth.specs.Traces.{DepthFirstEventsAreOne}
use Rattle.tl_domain.specs.LawsFiles.{FilesStandForOneProblem}
use Rattle.tl_lasso.specs.Laws.{OneLoopVerdict}
use Rattle.tl_search.specs.LawsOutcomes.{AnswersExcludeEachOther, FewPairsAreNotSpent}
use Rattle.tl_search.specs.LawsRange.{CalmHasNoCause}
use Rattle.tl_terms.specs.LawsCalm.{NoArithmeticLooksAtNothing}
use Rattle.tl_terms.specs.LawsOrders.{PlanOrderIsTotal}

-- one verdict is right of a plan, of one with a repeated part and of a proof; two files stand for
-- one problem; plans are totally ordered; what a search answers excludes other answers, and its
-- events are one list; and where no arithmetic term stands nothing is looked at
pub record Laws : Type 0 where
  pub verdicts : OneVerdict
  pub problems : FilesStandForOneProblem
  pub orders : PlanOrderIsTotal
  pub exclusions : AnswersExcludeEachOther
  pub few_pairs : FewPairsAreNotSpent
  pub calm : CalmHasNoCause
  pub traces : BreadthFirstEventsAreOne
  pub deep_traces : DepthFirstEventsAreOne
  pub quiet : NoArithmeticLooksAtNothing
  pub covered : CoveredHasNone
  pub none_verdicts : OneNoneVerdict
  pub loop_verdicts : OneLoopVerdict
