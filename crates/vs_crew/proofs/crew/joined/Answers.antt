use Rattle.std.proofs.Common.{◌≡◌, ℕ, suc, ◌-◌, List, [], ◌∷◌, ◌++◌, ◌||◌, length, length-append, sym, subst, ap, ◌∙◌, arith}
use Rattle.vs_crew.specs.Sharing.{KnowsEnds}
use Rattle.vs_crew.specs.Workers.{AreDone}
use Rattle.vs_crew.specs.declared.worker.Worker.{Worker}
use Rattle.vs_crew.proofs.Crews.{done-before, done-last, end_knows}
use Rattle.vs_crew.proofs.others.Joined.{both_end, one_ends}
use Rattle.vs_crew.proofs.crew.joined.Goals as goal

pub loop-worker-init : goal.loop-worker-init
loop-worker-init g c =
    let stops = g.G.Gate.may_stop c.args.site.now.gate.now in
    let name = c.args.site.now.turn.now.name in
    let start = c.args.site.now.start.now.value in
    let crew = c.pop.new.self.items in
    let worker = c.in-Some.worker in
    let items : c.args.crew.items ≡ crew ++ worker ∷ [] = c.in-Some.ensures.items in
    let all = subst (AreDone stops name start) items c.requires.done in
    let done = done-last stops name start crew worker all in
    let size = ap (λ (l : List Worker). length l) items ∙ length-append crew (worker ∷ []) in
    let one : 1 ≡ length c.args.crew.items - length crew = omega (arith, size) in
    record {
      done = done-before stops name start crew worker all;
      fewer = omega (arith, size);
      ends =
          subst (λ (n : ℕ). KnowsEnds stops name start (length crew) n c.end_of.result.1 c.end_of.result.0) one
          (one_ends stops name start (length crew) c.end_of.result.1 c.end_of.result.0
          (end_knows stops name start (length crew) worker c.end_of.result.0 c.end_of.result.1 done c.end_of.ensures.0
          c.end_of.ensures.1));
    }

pub end_of-own-requires : goal.end_of-own-requires
end_of-own-requires g c =
    let stops = g.G.Gate.may_stop c.args.site.now.gate.now in
    let name = c.args.site.now.turn.now.name in
    let start = c.args.site.now.start.now.value in
    let crew = c.pop-in-loop-worker.new.self.items in
    let worker = c.in-Some-pop.worker in
    let all = subst (AreDone stops name start) c.in-Some-pop.ensures.items c.loop-worker.invariant.done in
    let done = done-last stops name start crew worker all in
    (done.seat, done.has)

pub join-seat-requires : goal.join-seat-requires
join-seat-requires g c =
    let stops = g.G.Gate.may_stop c.args.site.now.gate.now in
    let name = c.args.site.now.turn.now.name in
    let start = c.args.site.now.start.now.value in
    let crew = c.pop-in-loop-worker.new.self.items in
    let worker = c.in-Some-pop.worker in
    let all = subst (AreDone stops name start) c.in-Some-pop.ensures.items c.loop-worker.invariant.done in
    let done = done-last stops name start crew worker all in
    let knows = end_knows stops name start (length crew) worker c.end_of-own.result.0 c.end_of-own.result.1 done
    c.end_of-own.ensures.0 c.end_of-own.ensures.1 in
    (knows.of_turn, c.loop-worker.invariant.ends.of_turn)

pub loop-worker-preserved : goal.loop-worker-preserved
loop-worker-preserved g c =
    let stops = g.G.Gate.may_stop c.args.site.now.gate.now in
    let name = c.args.site.now.turn.now.name in
    let start = c.args.site.now.start.now.value in
    let before = c.loop-worker.crew.items in
    let crew = c.pop-in-loop-worker.new.self.items in
    let worker = c.in-Some-pop.worker in
    let items : before ≡ crew ++ worker ∷ [] = c.in-Some-pop.ensures.items in
    let all = subst (AreDone stops name start) items c.loop-worker.invariant.done in
    let done = done-last stops name start crew worker all in
    let knows = end_knows stops name start (length crew) worker c.end_of-own.result.0 c.end_of-own.result.1 done
    c.end_of-own.ensures.0 c.end_of-own.ensures.1 in
    let size = ap (λ (l : List Worker). length l) items ∙ length-append crew (worker ∷ []) in
    let fewer = c.loop-worker.invariant.fewer in
    let total = length c.args.crew.items in
    let below : suc (length crew) ≡ length before = omega (arith, size) in
    let more : suc (total - length before) ≡ total - length crew = omega (arith, size, fewer) in
    let join = c.join-seat.ensures in
    record {
      done = done-before stops name start crew worker all;
      fewer = omega (arith, size, fewer);
      ends =
          subst (λ (n : ℕ). KnowsEnds stops name start (length crew) n (c.end_of-own.result.1 || c.loop-worker.over)
          c.join-seat.result) more
          (both_end stops name start (length crew) (total - length before) c.end_of-own.result.1 c.loop-worker.over
          c.end_of-own.result.0 c.loop-worker.seat c.join-seat.result knows
          (subst (λ (n : ℕ). KnowsEnds stops name start n (total - length before) c.loop-worker.over
          c.loop-worker.seat) (sym below) c.loop-worker.invariant.ends)
          join.seat join.calls join.knows join.begins.0 join.begins.1);
    }

pub returns : goal.returns
returns g c =
    let stops = g.G.Gate.may_stop c.args.site.now.gate.now in
    let name = c.args.site.now.turn.now.name in
    let start = c.args.site.now.start.now.value in
    let crew = c.loop-worker.crew.items in
    let total = length c.args.crew.items in
    let none : length crew ≡ 0 = sym c.loop-worker.crew.ok.0 ∙ c.in_default.ensures.cases.0 in
    let all : total - 0 ≡ total = omega arith in
    subst (λ (n : ℕ). KnowsEnds stops name start 0 n c.loop-worker.over c.loop-worker.seat) all
    (subst (λ (n : ℕ). KnowsEnds stops name start n (total - n) c.loop-worker.over c.loop-worker.seat) none
    c.loop-worker.invariant.ends)
