use Rattle.std.proofs.Common.{arith}
use Rattle.hp_agree.proofs.Either.{other_of}
use Rattle.hp_agree.proofs.EachKind as kinds
use Rattle.hp_agree.proofs.Order.{order}
use Rattle.hp_agree.proofs.laws.they_find_the_same.Goals as goal

pub returns-clause-order : goal.returns-clause-order
returns-clause-order c p limit = other_of (order p limit)

pub returns-clause-shape : goal.returns-clause-shape
returns-clause-shape c p listed limit = other_of (kinds.shape p listed limit)

pub returns-clause-agree : goal.returns-clause-agree
returns-clause-agree c p = other_of (kinds.agree p)

pub returns-clause-frame : goal.returns-clause-frame
returns-clause-frame c p x = (λ twice. omega (arith, twice, kinds.places_same p x), λ found. omega (arith, found, kinds.places_same p x))

pub returns-clause-place : goal.returns-clause-place
returns-clause-place c p = other_of (kinds.place p)

pub returns-clause-size : goal.returns-clause-size
returns-clause-size c p = other_of (kinds.size p)

pub returns-clause-count : goal.returns-clause-count
returns-clause-count c p listed limit = other_of (kinds.count p listed limit)

pub returns-clause-used : goal.returns-clause-used
returns-clause-used c p listed limit = other_of (kinds.used p listed limit)
