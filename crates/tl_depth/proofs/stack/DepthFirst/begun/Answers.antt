use Rattle.tl_search.specs.KeptPairs.{pairs_of}
use Rattle.std.proofs.Common.{◌≡◌, ◌≢◌, [], ◌∷◌, ◌++◌, None, refl, sym, ap, ◌∙◌, arith}
use Rattle.tl_depth.specs.Levels.{path_of}
use Rattle.tl_depth.specs.declared.stack.DepthFirst.{DepthFirst}
use Rattle.tl_depth.proofs.Ends.{pushed, on-ok, if-err}
use Rattle.tl_depth.proofs.Ending.{begun-last, begun-entered, fault-first, as-begun}
use Rattle.tl_depth.proofs.stack.DepthFirst.begun.Goals as goal

pub returns-then-left-eq0-clause-begun : goal.returns-then-left-eq0-clause-begun
returns-then-left-eq0-clause-begun g c =
    let r = c.requires.first in
    let more : c.push.new.self.items ≡ c.args.self.now.most.items ++ c.args.self.now.within ∷ [] =
    pushed _ _ c.args.self.now.most.items _ c.args.self.now.within c.push.ensures.items c.is_err.ensures.negation c.if-is_err.false in
    begun-last _ _ _ r.0 r.3 r.1 r.2 c.args.self.now _ r.5 r.4 c.if-left-eq0.true refl refl refl refl refl more r.6

pub returns-clause-begun : goal.returns-clause-begun
returns-clause-begun g c = on-ok c.enter.result _ _ c.enter.ensures.entered (λ t.
    let r = c.requires.first in
    let more : c.push.new.self.items ≡ c.args.self.now.most.items ++ c.args.self.now.within ∷ [] =
    pushed _ _ c.args.self.now.most.items _ c.args.self.now.within c.push.ensures.items c.is_err.ensures.negation c.if-is_err.false in
    let n : c.args.self.now.within ≢ 0 = c.if-left-eq0.false in
    as-begun _ _ c.args.nodes _ _ c.args.self.now c.enter.new.self None refl (sym (ap pairs_of c.enter.ensures.kept))
    (begun-entered _ _ _ r.0 r.3 r.1 r.2 c.args.self.now c.enter.new.self r.5 r.4 (omega arith)
    (ap (λ (w : DepthFirst). w.within) c.enter.ensures.rest) (ap (λ (w : DepthFirst). w.watch) c.enter.ensures.rest)
    (ap (λ (w : DepthFirst). w.events) c.enter.ensures.rest) (ap (λ (w : DepthFirst). w.reenters) c.enter.ensures.rest) t
    (ap (λ (w : DepthFirst). w.most.items) c.enter.ensures.rest ∙ more) r.6))

pub returns-clause-fault : goal.returns-clause-fault
returns-clause-fault g c = if-err c.enter.result _ _ c.enter.ensures.fault (λ f e.
    let n : c.args.self.now.within ≢ 0 = c.if-left-eq0.false in
    fault-first _ _ _ c.requires.first.0 c.requires.first.1 c.requires.first.2 (omega arith) (ap path_of c.requires.first.5.stack) f e)

pub returns-then-left-eq0-clause-named : goal.returns-then-left-eq0-clause-named
returns-then-left-eq0-clause-named g c = record { stack = c.requires.named.stack; events = c.requires.named.events }

pub enter-requires-clause-named : goal.enter-requires-clause-named
enter-requires-clause-named g c = record { stack = c.requires.named.stack; events = c.requires.named.events }
