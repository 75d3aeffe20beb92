-- Recordings of a kernel, line by line: what the kernel did, the machine's events of that line, and how many frames it had free and
-- counted as reserved behind it. Written by `conformance/live/lines.py` from `conformance/live/smallest/`: no line is by hand.
use Rattle.std.specs.Prelude.{true, false, List, [], ◌∷◌}
use Rattle.hp_base.specs.declared.event.Op.TheVariants as op
use Rattle.hp_base.specs.declared.event.Event.TheVariants.{Begin, Step}
use Rattle.hp_linux.specs.Following.{Line, lets_go, line}

-- conformance/live/smallest/count-lost-at-a-commit.bin
abbrev pub commit_lines : List Line
commit_lines =
    -- task 2: calls mapn 0 0 1
    line (Begin 2 (op.MapNoReserve 0 0 1) ∷ []) 1 0 0 (
    -- task 1: calls map 0 0 1
    line (Begin 1 (op.Map 0 0 1) ∷ []) 1 0 0 (
    -- task 1: has the inode lock
    line (Step 1 true ∷ Step 1 true ∷ []) 1 0 0 (
    -- task 1: region_chg [0, 1): missing 1
    line (Step 1 true ∷ []) 1 0 0 (
    -- task 1: hugetlb_acct_memory +1
    line (Step 1 true ∷ []) 1 1 0 (
    -- task 1: region_add [0, 1): added 1
    line (Step 1 true ∷ []) 1 1 0 (
    -- task 1: i_size = 1
    line (Step 1 true ∷ []) 1 1 0 (
    -- task 1: leaves the inode lock
    line (Step 1 true ∷ []) 1 1 0 (
    -- task 1: returns mapped 0
    line ([]) 1 1 0 (
    -- task 1: calls store 0 7
    line ([]) 1 1 0 (
    -- task 1: faults at index 0
    line ([]) 1 1 0 (
    -- task 1: has the fault mutex of index 0
    line (Begin 1 (op.Load 0) ∷ Step 1 true ∷ Step 1 true ∷ []) 1 1 0 (
    -- task 1: page cache at index 0: none
    line ([]) 1 1 0 (
    -- task 1: i_size is 1, index 0
    line (Step 1 true ∷ []) 1 1 0 (
    -- task 1: region_chg [0, 1): missing 0
    line (Step 1 true ∷ []) 1 1 0 (
    -- task 2: has the inode lock
    line (Step 2 true ∷ Step 2 true ∷ []) 1 1 0 (
    -- task 2: enters the mapping
    line (Step 2 true ∷ []) 1 1 0 (
    -- task 2: leaves the inode lock
    line (Step 2 true ∷ []) 1 1 0 (
    -- task 2: returns mapped 0
    line ([]) 1 1 0 (
    -- task 2: calls trunc 0 0
    line (Begin 2 (op.Truncate 0 0) ∷ []) 1 1 0 (
    -- task 2: has the inode lock
    line (Step 2 true ∷ []) 1 1 0 (
    -- task 2: i_size = 0
    line (Step 2 true ∷ Step 2 true ∷ []) 1 1 0 (
    -- task 2: skips a mapping whose vma lock is held
    line ([]) 1 1 0 (
    -- task 2: hugetlb_unreserve_pages, 0 freed
    line ([]) 1 1 0 (
    -- task 2: region_del [0, end): removed 1
    line (Step 2 true ∷ []) 1 1 0 (
    -- task 2: hugetlb_acct_memory -1
    line (Step 2 true ∷ []) 1 0 0 (
    -- task 2: leaves the inode lock
    line (Step 2 true ∷ []) 1 0 0 (
    -- task 2: returns 0
    line ([]) 1 0 0 (
    -- task 1: a page for index 0: reserved, pfn 2048
    line (Step 1 true ∷ []) 0 0 1 (
    -- task 1: region_add [0, 1): added 1
    line (Step 1 true ∷ []) 0 0 1 (
    -- task 1: pfn 2048 is in the page cache at index 0
    line (Step 1 true ∷ []) 0 0 1 (
    -- task 1: translates index 0
    line (Step 1 true ∷ []) 0 0 1 (
    -- task 1: leaves the fault mutex of index 0
    line (Step 1 true ∷ []) 0 0 1 (
    -- task 1: writes 7
    line (Begin 1 (op.Store 0 7) ∷ Step 1 true ∷ []) 0 0 1 (
    -- task 1: returns
    line ([]) 0 0 1 (
    [])))))))))))))))))))))))))))))))))))

-- conformance/live/smallest/count-lost-by-a-refused-raise.bin
abbrev pub raise_lines : List Line
raise_lines =
    -- task 2: calls mapn 0 0 1
    line (Begin 2 (op.MapNoReserve 0 0 1) ∷ []) 1 0 0 (
    -- task 1: calls mapn 0 0 1
    line (Begin 1 (op.MapNoReserve 0 0 1) ∷ []) 1 0 0 (
    -- task 1: has the inode lock
    line (Step 1 true ∷ Step 1 true ∷ []) 1 0 0 (
    -- task 1: i_size = 1
    line (Step 1 true ∷ []) 1 0 0 (
    -- task 1: leaves the inode lock
    line (Step 1 true ∷ []) 1 0 0 (
    -- task 1: returns mapped 0
    line ([]) 1 0 0 (
    -- task 1: calls alloc 0 0 1
    line (Begin 1 (op.Alloc 0 0 1 false) ∷ []) 1 0 0 (
    -- task 1: has the inode lock
    line (Step 1 true ∷ []) 1 0 0 (
    -- task 1: has the fault mutex of index 0
    line (Step 1 true ∷ Step 1 true ∷ []) 1 0 0 (
    -- task 1: page cache at index 0: none
    line (Step 1 true ∷ []) 1 0 0 (
    -- task 1: region_chg [0, 1): missing 1
    line (Step 1 true ∷ []) 1 0 0 (
    -- task 1: a page for index 0: not reserved, pfn 2048
    line (Step 1 true ∷ []) 0 0 0 (
    -- task 1: region_add [0, 1): added 1
    line (Step 1 true ∷ []) 0 0 0 (
    -- task 1: pfn 2048 is in the page cache at index 0
    line (Step 1 true ∷ []) 0 0 0 (
    -- task 1: leaves the fault mutex of index 0
    line (Step 1 true ∷ []) 0 0 0 (
    -- task 1: leaves the inode lock
    line (Step 1 true ∷ Step 1 true ∷ []) 0 0 0 (
    -- task 1: returns 0
    line ([]) 0 0 0 (
    -- task 1: calls punch 0 0 1
    line (Begin 1 (op.Punch 0 0 1) ∷ []) 0 0 0 (
    -- task 1: has the inode lock
    line (Step 1 true ∷ []) 0 0 0 (
    -- task 1: looks up 1 pages, the first at 0
    line ([]) 0 0 0 (
    -- task 1: has the fault mutex of index 0
    line (Step 1 true ∷ []) 0 0 0 (
    -- task 1: index 0 leaves the page cache, pfn 2048
    line (Step 1 true ∷ Step 1 true ∷ Step 1 true ∷ Step 1 true ∷ []) 0 0 0 (
    -- task 1: hugetlb_unreserve_pages, 1 freed
    line ([]) 0 0 0 (
    -- task 1: region_del [0, 1): removed 1
    line (Step 1 true ∷ Step 1 true ∷ []) 0 0 0 (
    -- task 1: leaves the fault mutex of index 0
    line (Step 1 true ∷ []) 0 0 0 (
    -- task 1: pfn 2048 is free
    lets_go 0 1 0 0 (
    -- task 1: leaves the inode lock
    line (Step 1 true ∷ []) 1 0 0 (
    -- task 1: returns 0
    line ([]) 1 0 0 (
    -- task 1: calls store 0 7
    line ([]) 1 0 0 (
    -- task 1: faults at index 0
    line ([]) 1 0 0 (
    -- task 1: has the fault mutex of index 0
    line (Begin 1 (op.Load 0) ∷ Step 1 true ∷ Step 1 true ∷ []) 1 0 0 (
    -- task 1: page cache at index 0: none
    line ([]) 1 0 0 (
    -- task 1: i_size is 1, index 0
    line (Step 1 true ∷ []) 1 0 0 (
    -- task 1: region_chg [0, 1): missing 1
    line (Step 1 true ∷ []) 1 0 0 (
    -- task 1: a page for index 0: not reserved, pfn 2048
    line (Step 1 true ∷ []) 0 0 0 (
    -- task 1: region_add [0, 1): added 1
    line (Step 1 true ∷ []) 0 0 0 (
    -- task 2: has the inode lock
    line (Step 2 true ∷ Step 2 true ∷ []) 0 0 0 (
    -- task 2: enters the mapping
    line (Step 2 true ∷ []) 0 0 0 (
    -- task 2: leaves the inode lock
    line (Step 2 true ∷ []) 0 0 0 (
    -- task 2: returns mapped 0
    line ([]) 0 0 0 (
    -- task 2: calls unmap 0
    line (Begin 2 (op.Unmap 0) ∷ []) 0 0 0 (
    -- task 2: returns 0
    line (Step 2 true ∷ Step 2 true ∷ Step 2 true ∷ []) 0 0 0 (
    -- task 2: calls trunc 0 0
    line (Begin 2 (op.Truncate 0 0) ∷ []) 0 0 0 (
    -- task 2: has the inode lock
    line (Step 2 true ∷ []) 0 0 0 (
    -- task 2: i_size = 0
    line (Step 2 true ∷ Step 2 true ∷ []) 0 0 0 (
    -- task 2: skips a mapping whose vma lock is held
    line ([]) 0 0 0 (
    -- task 2: hugetlb_unreserve_pages, 0 freed
    line ([]) 0 0 0 (
    -- task 2: region_del [0, end): removed 1
    line (Step 2 true ∷ []) 0 0 0 (
    -- task 2: hugetlb_acct_memory -1
    line (Step 2 true ∷ []) 0 0 1 (
    -- task 2: leaves the inode lock
    line (Step 2 true ∷ []) 0 0 1 (
    -- task 2: returns 0
    line ([]) 0 0 1 (
    -- task 1: pfn 2048 is in the page cache at index 0
    line (Step 1 true ∷ []) 0 0 1 (
    -- task 1: translates index 0
    line (Step 1 true ∷ []) 0 0 1 (
    -- task 1: leaves the fault mutex of index 0
    line (Step 1 true ∷ []) 0 0 1 (
    -- task 1: writes 7
    line (Begin 1 (op.Store 0 7) ∷ Step 1 true ∷ []) 0 0 1 (
    -- task 1: returns
    line ([]) 0 0 1 (
    -- task 1: calls punch 0 0 1
    line (Begin 1 (op.Punch 0 0 1) ∷ []) 0 0 1 (
    -- task 1: has the inode lock
    line (Step 1 true ∷ []) 0 0 1 (
    -- task 1: clears a translation of index 0
    line ([]) 0 0 1 (
    -- task 1: looks up 1 pages, the first at 0
    line ([]) 0 0 1 (
    -- task 1: has the fault mutex of index 0
    line (Step 1 true ∷ []) 0 0 1 (
    -- task 1: index 0 leaves the page cache, pfn 2048
    line (Step 1 true ∷ Step 1 true ∷ Step 1 true ∷ Step 1 true ∷ []) 0 0 1 (
    -- task 1: hugetlb_unreserve_pages, 1 freed
    line ([]) 0 0 1 (
    -- task 1: region_del [0, 1): removed 0
    line (Step 1 true ∷ Step 1 true ∷ []) 0 0 1 (
    -- task 1: hugetlb_acct_memory +1: refused
    line ([]) 0 0 1 (
    -- task 1: leaves the fault mutex of index 0
    line (Step 1 true ∷ []) 0 0 1 (
    -- task 1: pfn 2048 is free
    lets_go 0 1 0 1 (
    -- task 1: leaves the inode lock
    line (Step 1 true ∷ []) 1 0 1 (
    -- task 1: returns 0
    line ([]) 1 0 1 (
    [])))))))))))))))))))))))))))))))))))))))))))))))))))))))))))))))))))))

-- conformance/live/smallest/count-lost-by-a-back-out.bin
abbrev pub back_out_lines : List Line
back_out_lines =
    -- task 2: calls mapn 0 0 1
    line (Begin 2 (op.MapNoReserve 0 0 1) ∷ []) 2 0 0 (
    -- task 1: calls mapn 0 0 1
    line (Begin 1 (op.MapNoReserve 0 0 1) ∷ []) 2 0 0 (
    -- task 1: has the inode lock
    line (Step 1 true ∷ Step 1 true ∷ []) 2 0 0 (
    -- task 1: i_size = 1
    line (Step 1 true ∷ []) 2 0 0 (
    -- task 1: leaves the inode lock
    line (Step 1 true ∷ []) 2 0 0 (
    -- task 1: returns mapped 0
    line ([]) 2 0 0 (
    -- task 1: calls store 0 1
    line ([]) 2 0 0 (
    -- task 1: faults at index 0
    line ([]) 2 0 0 (
    -- task 1: has the fault mutex of index 0
    line (Begin 1 (op.Load 0) ∷ Step 1 true ∷ Step 1 true ∷ []) 2 0 0 (
    -- task 1: page cache at index 0: none
    line ([]) 2 0 0 (
    -- task 1: i_size is 1, index 0
    line (Step 1 true ∷ []) 2 0 0 (
    -- task 1: region_chg [0, 1): missing 1
    line (Step 1 true ∷ []) 2 0 0 (
    -- task 1: a page for index 0: not reserved, pfn 2560
    line (Step 1 true ∷ []) 1 0 0 (
    -- task 1: region_add [0, 1): added 1
    line (Step 1 true ∷ []) 1 0 0 (
    -- task 2: has the inode lock
    line (Step 2 true ∷ Step 2 true ∷ []) 1 0 0 (
    -- task 2: enters the mapping
    line (Step 2 true ∷ []) 1 0 0 (
    -- task 2: leaves the inode lock
    line (Step 2 true ∷ []) 1 0 0 (
    -- task 2: returns mapped 0
    line ([]) 1 0 0 (
    -- task 2: calls map 0 0 1
    line (Begin 2 (op.Map 0 0 1) ∷ []) 1 0 0 (
    -- task 2: has the inode lock
    line (Step 2 true ∷ Step 2 true ∷ []) 1 0 0 (
    -- task 2: region_chg [0, 1): missing 0
    line (Step 2 true ∷ []) 1 0 0 (
    -- task 1: adding to the page cache is refused memory
    line (Step 1 false ∷ []) 1 0 0 (
    -- task 1: region_chg [0, 1): missing 0
    line ([]) 1 0 0 (
    -- task 1: restore_reserve_on_error, restore 0
    line ([]) 1 0 0 (
    -- task 1: region_abort
    line ([]) 1 0 0 (
    -- task 1: region_del [0, 1): removed 1
    line ([]) 1 0 0 (
    -- task 1: pfn 2560 is free
    line (Step 1 true ∷ []) 2 0 0 (
    -- task 1: leaves the fault mutex of index 0
    line (Step 1 true ∷ []) 2 0 0 (
    -- task 1: SIGBUS
    line ([]) 2 0 0 (
    -- task 2: region_add [0, 1): added 1
    line (Step 2 true ∷ Step 2 true ∷ []) 2 0 0 (
    -- task 2: enters the mapping
    line (Step 2 true ∷ []) 2 0 0 (
    -- task 2: leaves the inode lock
    line (Step 2 true ∷ []) 2 0 0 (
    -- task 2: returns mapped 1
    line ([]) 2 0 0 (
    [])))))))))))))))))))))))))))))))))
