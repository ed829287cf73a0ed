use Rattle.tl_depth.proofs.NamedStacks.{stack-stepped, search-with}
use Rattle.std.proofs.Common.{◌≡◌, ◌≢◌, [], ◌∷◌, ◌++◌, refl, ap, ◌∙◌, arith}
use Rattle.tl_search.specs.declared.arrival.Arrival.TheVariants as arrival
use Rattle.tl_depth.specs.declared.stack.DepthFirst.{DepthFirst}
use Rattle.tl_depth.proofs.Ends.{pushed, on-ok, if-err}
use Rattle.tl_depth.proofs.Arriving.{turned-last, turned-entered, its-pair, fault-entering}
use Rattle.tl_depth.proofs.stack.DepthFirst.fresh.Goals as goal

pub returns-then-left-eq0-clause-turned : goal.returns-then-left-eq0-clause-turned
returns-then-left-eq0-clause-turned g c calls s =
    let a = s.arrives in
    let at = its-pair _ _ _ _ (arrival.Fresh c.args.k) _ calls s c.args.k a.0 a.1.0 a.1.1 a.1.2 a.1.3 in
    let more : c.push.new.self.items ≡ c.args.self.now.most.items ++ c.args.left ∷ [] =
    pushed _ _ c.args.self.now.most.items _ c.args.left c.push.ensures.items c.is_err.ensures.negation c.if-is_err.false in
    turned-last _ _ _ _ (arrival.Fresh c.args.k) _ calls s c.args.k a.0 a.1.0 a.1.1 a.1.2 a.1.3 c.pass.new.self c.pass.ensures.stack
    (ap (λ (w : DepthFirst). w.within) c.pass.ensures.rest) (ap (λ (w : DepthFirst). w.watch) c.pass.ensures.rest)
    (ap (λ (w : DepthFirst). w.events) c.pass.ensures.rest)
    (ap (λ (w : DepthFirst). w.reenters) c.pass.ensures.rest) (ap (λ (w : DepthFirst). w.most.items) c.pass.ensures.rest ∙ more)
    c.if-left-eq0.true c.requires.refused.0 (c.requires.refused.1 a.1.0 at) refl

pub returns-clause-turned : goal.returns-clause-turned
returns-clause-turned g c = on-ok c.enter.result _ _ c.enter.ensures.entered (λ t calls s.
    let a = s.arrives in
    let at = its-pair _ _ _ _ (arrival.Fresh c.args.k) _ calls s c.args.k a.0 a.1.0 a.1.1 a.1.2 a.1.3 in
    let more : c.push.new.self.items ≡ c.args.self.now.most.items ++ c.args.left ∷ [] =
    pushed _ _ c.args.self.now.most.items _ c.args.left c.push.ensures.items c.is_err.ensures.negation c.if-is_err.false in
    let n : c.args.left ≢ 0 = c.if-left-eq0.false in
    turned-entered _ _ _ _ (arrival.Fresh c.args.k) _ calls s c.args.k a.0 a.1.0 a.1.1 a.1.2 a.1.3 c.enter.new.self t
    (ap (λ (w : DepthFirst). w.within) c.enter.ensures.rest) (ap (λ (w : DepthFirst). w.watch) c.enter.ensures.rest)
    (ap (λ (w : DepthFirst). w.events) c.enter.ensures.rest)
    (ap (λ (w : DepthFirst). w.reenters) c.enter.ensures.rest) (ap (λ (w : DepthFirst). w.most.items) c.enter.ensures.rest ∙ more)
    (omega arith) c.requires.refused.0 (c.requires.refused.1 a.1.0 at) refl)

pub returns-clause-fault : goal.returns-clause-fault
returns-clause-fault g c = if-err c.enter.result _ _ c.enter.ensures.fault (λ f e.
    let s = c.requires.arrived.1 in
    let a = s.arrives in
    let n : c.args.left ≢ 0 = c.if-left-eq0.false in
    fault-entering _ _ _ _ (arrival.Fresh c.args.k) _ c.requires.arrived.0 s a.1.0 a.1.1 c.args.k
    (its-pair _ _ _ _ (arrival.Fresh c.args.k) _ c.requires.arrived.0 s c.args.k a.0 a.1.0 a.1.1 a.1.2 a.1.3) (omega arith) f e)

pub returns-then-left-eq0-clause-named : goal.returns-then-left-eq0-clause-named
returns-then-left-eq0-clause-named g c =
    let s = c.requires.arrived.1 in
    search-with (g.S.SearchSpace.task c.args.space.now) c.args.self.now c.pass.new.self
    (stack-stepped (g.S.SearchSpace.task c.args.space.now) c.args.self.now.stack.items s.front c.pass.new.self.stack.items s.top s.stack
    (c.pass.ensures.stack s.front s.top s.stack) c.requires.named.stack)
    (ap (λ (w : DepthFirst). w.events) c.pass.ensures.rest) c.requires.named

pub enter-requires-clause-named : goal.enter-requires-clause-named
enter-requires-clause-named g c = record { stack = c.requires.named.stack; events = c.requires.named.events }
