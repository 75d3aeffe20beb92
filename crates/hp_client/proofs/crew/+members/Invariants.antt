use Rattle.std.proofs.Common.{◌+◌, ◌*◌, length}
use Rattle.hp_client.proofs.crew.+members.Given as goal

-- a thread for the first member leaves the others to a closure, which leaves them to the function again
abbrev pub decreases-run_members : goal.decreases-run_members
decreases-run_members g l = 2 * length l.members.now

abbrev pub decreases-join_mut+arg3 : goal.decreases-join_mut+arg3
decreases-join_mut+arg3 g l = 2 * length l.rest.now + 1
