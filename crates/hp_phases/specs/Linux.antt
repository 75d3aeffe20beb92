-- What does in Linux what a step of a call does, by the phase from which it is made: the table of docs/MACHINE.md.
use Rattle.std.specs.Prelude.{List, ℕ, codes}
use Rattle.hp_machine.specs.declared.phase.Phase.{Phase}
use Rattle.hp_machine.specs.declared.phase.Phase.TheVariants as phase
use Rattle.hp_phases.specs.declared.linux.Kernel.{Kernel}
use Rattle.hp_phases.specs.declared.linux.Kernel.TheVariants.{Linux6_1, Linux6_18}
use Rattle.hp_phases.specs.declared.linux.Locks.{Locks}
use Rattle.hp_phases.specs.declared.linux.Locks.TheVariants.{Neither, Slot, File, Both}

-- a name in 6.1, and the newer one
abbrev pub since_then : Kernel → (older newer : List ℕ) → List ℕ
since_then Linux6_1 older newer = older
since_then Linux6_18 older newer = newer

-- the function of most calls
abbrev pub most_do : Kernel → Phase → List ℕ
most_do k phase.Start = codes "inode_lock"
most_do k phase.Look = codes "hugetlb_fault"
most_do k phase.Want = codes "hugetlb_fault_mutex_hash"
most_do k phase.Locked = since_then k (codes "find_lock_page") (codes "filemap_lock_hugetlb_folio")
most_do k phase.Missing = codes "region_chg"
most_do k phase.Changed = since_then k (codes "alloc_huge_page") (codes "alloc_hugetlb_folio")
most_do k phase.Abort = codes "region_abort"
most_do k phase.Taken = codes "region_add"
most_do k phase.Settle = codes "hugetlb_acct_memory"
most_do k phase.Committed = codes "hugetlb_add_to_page_cache"
most_do k phase.Restore = codes "restore_reserve_on_error"
most_do k phase.Found = codes "set_huge_pte_at"
most_do k phase.Leave = codes "inode_unlock"
most_do k phase.Room = codes "get_unmapped_area"
most_do k phase.Accounted = codes "region_add"
most_do k phase.Enter = codes "mmap_region"
most_do k phase.Head = codes "hugetlbfs_fallocate"
most_do k phase.Unslot = codes "mutex_unlock"
most_do k phase.Extend = codes "i_size_write"
most_do k phase.Unmap = codes "hugetlb_unmap_file_folio"
most_do k phase.Evict = codes "hugetlb_delete_from_page_cache"
most_do k phase.Delete = codes "region_del"
most_do k phase.Free = since_then k (codes "free_huge_page") (codes "free_huge_folio")
most_do k phase.Size = codes "i_size_write"
most_do k phase.Tail = codes "region_del"
most_do k phase.Clear = codes "unmap_vmas"
most_do k phase.Drop = codes "remove_vma"

-- the function where a call holds no lock, a slot, a file's lock, or both
abbrev pub by_locks : Locks → (neither slot file both : List ℕ) → List ℕ
by_locks Neither neither slot file both = neither
by_locks Slot neither slot file both = slot
by_locks File neither slot file both = file
by_locks Both neither slot file both = both

-- An unmap and an exit, which take no lock, look for a mapping at their start. A map, which holds only its file's lock at changed, raises
-- the count there. A touch leaves a slot at its end, others a file's lock, and an exit its task.
abbrev pub linux_word : Kernel → Phase → Locks → List ℕ
linux_word k phase.Start locks = by_locks locks (codes "find_vma") (most_do k phase.Start) (most_do k phase.Start) (most_do k phase.Start)
linux_word k phase.Look locks = most_do k phase.Look
linux_word k phase.Want locks = most_do k phase.Want
linux_word k phase.Locked locks = most_do k phase.Locked
linux_word k phase.Missing locks = most_do k phase.Missing
linux_word k phase.Changed locks =
    by_locks locks (most_do k phase.Changed) (most_do k phase.Changed) (codes "hugetlb_acct_memory") (most_do k phase.Changed)
linux_word k phase.Abort locks = most_do k phase.Abort
linux_word k phase.Taken locks = most_do k phase.Taken
linux_word k phase.Settle locks = most_do k phase.Settle
linux_word k phase.Committed locks = most_do k phase.Committed
linux_word k phase.Restore locks = most_do k phase.Restore
linux_word k phase.Found locks = most_do k phase.Found
linux_word k phase.Leave locks = by_locks locks (codes "do_exit") (codes "mutex_unlock") (most_do k phase.Leave) (most_do k phase.Leave)
linux_word k phase.Room locks = most_do k phase.Room
linux_word k phase.Accounted locks = most_do k phase.Accounted
linux_word k phase.Enter locks = most_do k phase.Enter
linux_word k phase.Head locks = most_do k phase.Head
linux_word k phase.Unslot locks = most_do k phase.Unslot
linux_word k phase.Extend locks = most_do k phase.Extend
linux_word k phase.Unmap locks = most_do k phase.Unmap
linux_word k phase.Evict locks = most_do k phase.Evict
linux_word k phase.Delete locks = most_do k phase.Delete
linux_word k phase.Free locks = most_do k phase.Free
linux_word k phase.Size locks = most_do k phase.Size
linux_word k phase.Tail locks = most_do k phase.Tail
linux_word k phase.Clear locks = most_do k phase.Clear
linux_word k phase.Drop locks = most_do k phase.Drop
