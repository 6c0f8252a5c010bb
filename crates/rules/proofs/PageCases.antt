-- Computed cases of the page, byte by byte: M13's page as document 01 prints it, refused runs, and what the program prints for its input.
use mathlib.Core.Path.{◌≡◌, refl}
use mathlib.Core.List.{List, [], ◌∷◌, ◌++◌}
use Prim.Native.Nat.{ℕ}
use lib.ListN.{take, set}
use Rattle.backup.specs.Replica.{fit, arrive_number, count_number}
use Rattle.rules.specs.Moves.{guard, Command}
use Rattle.rules.specs.Run.{run}
use Rattle.rules.specs.Page.{decimal, page_of, bench_page}
use Rattle.rules.proofs.Cases.{run_of, schedule_bytes, Case, case, given, said}
use Rattle.rules.proofs.Marked.{sample, sample_page}

-- "The page is [..]", in ASCII, a line feed behind each line
abbrev pub printed : List ℕ
printed =
    -- records 20
    114 ∷ 101 ∷ 99 ∷ 111 ∷ 114 ∷ 100 ∷ 115 ∷ 32 ∷ 50 ∷ 48 ∷ 10
    -- 1 4 0 5
    ∷ 49 ∷ 32 ∷ 52 ∷ 32 ∷ 48 ∷ 32 ∷ 53 ∷ 10
    -- 2 4 0 7
    ∷ 50 ∷ 32 ∷ 52 ∷ 32 ∷ 48 ∷ 32 ∷ 55 ∷ 10
    -- 3 1 0 5
    ∷ 51 ∷ 32 ∷ 49 ∷ 32 ∷ 48 ∷ 32 ∷ 53 ∷ 10
    -- 4 0 0 0
    ∷ 52 ∷ 32 ∷ 48 ∷ 32 ∷ 48 ∷ 32 ∷ 48 ∷ 10
    -- 5 2 1 5
    ∷ 53 ∷ 32 ∷ 50 ∷ 32 ∷ 49 ∷ 32 ∷ 53 ∷ 10
    -- 6 4 1 5
    ∷ 54 ∷ 32 ∷ 52 ∷ 32 ∷ 49 ∷ 32 ∷ 53 ∷ 10
    -- 7 0 0 0
    ∷ 55 ∷ 32 ∷ 48 ∷ 32 ∷ 48 ∷ 32 ∷ 48 ∷ 10
    -- 8 1 0 7
    ∷ 56 ∷ 32 ∷ 49 ∷ 32 ∷ 48 ∷ 32 ∷ 55 ∷ 10
    -- 9 0 0 0
    ∷ 57 ∷ 32 ∷ 48 ∷ 32 ∷ 48 ∷ 32 ∷ 48 ∷ 10
    -- 10 2 1 12
    ∷ 49 ∷ 48 ∷ 32 ∷ 50 ∷ 32 ∷ 49 ∷ 32 ∷ 49 ∷ 50 ∷ 10
    -- 11 0 0 0
    ∷ 49 ∷ 49 ∷ 32 ∷ 48 ∷ 32 ∷ 48 ∷ 32 ∷ 48 ∷ 10
    -- 12 1 0 5
    ∷ 49 ∷ 50 ∷ 32 ∷ 49 ∷ 32 ∷ 48 ∷ 32 ∷ 53 ∷ 10
    -- 13 0 0 0
    ∷ 49 ∷ 51 ∷ 32 ∷ 48 ∷ 32 ∷ 48 ∷ 32 ∷ 48 ∷ 10
    -- 14 3 1 5
    ∷ 49 ∷ 52 ∷ 32 ∷ 51 ∷ 32 ∷ 49 ∷ 32 ∷ 53 ∷ 10
    -- 15 0 0 0
    ∷ 49 ∷ 53 ∷ 32 ∷ 48 ∷ 32 ∷ 48 ∷ 32 ∷ 48 ∷ 10
    -- 16 1 0 7
    ∷ 49 ∷ 54 ∷ 32 ∷ 49 ∷ 32 ∷ 48 ∷ 32 ∷ 55 ∷ 10
    -- 17 0 0 0
    ∷ 49 ∷ 55 ∷ 32 ∷ 48 ∷ 32 ∷ 48 ∷ 32 ∷ 48 ∷ 10
    -- 18 2 1 12
    ∷ 49 ∷ 56 ∷ 32 ∷ 50 ∷ 32 ∷ 49 ∷ 32 ∷ 49 ∷ 50 ∷ 10
    -- 19 4 1 12
    ∷ 49 ∷ 57 ∷ 32 ∷ 52 ∷ 32 ∷ 49 ∷ 32 ∷ 49 ∷ 50 ∷ 10
    -- 20 0 0 0
    ∷ 50 ∷ 48 ∷ 32 ∷ 48 ∷ 32 ∷ 48 ∷ 32 ∷ 48 ∷ 10
    -- process 0 1 0 0 0 7 12 0 0
    ∷ 112 ∷ 114 ∷ 111 ∷ 99 ∷ 101 ∷ 115 ∷ 115 ∷ 32 ∷ 48 ∷ 32 ∷ 49 ∷ 32 ∷ 48 ∷ 32 ∷ 48 ∷ 32 ∷ 48 ∷ 32 ∷ 55 ∷ 32 ∷ 49 ∷ 50 ∷ 32 ∷ 48 ∷ 32 ∷ 48 ∷ 10
    -- quiet 1
    ∷ 113 ∷ 117 ∷ 105 ∷ 101 ∷ 116 ∷ 32 ∷ 49 ∷ 10 ∷ []

-- `refused`, a space, one digit, a line feed
abbrev refused_by : ℕ → List ℕ
refused_by digit = 114 ∷ 101 ∷ 102 ∷ 117 ∷ 115 ∷ 101 ∷ 100 ∷ 32 ∷ digit ∷ 10 ∷ []

abbrev page_for : List ℕ → List Command → List ℕ
page_for table l = page_of 1 (run_of table l)

-- the program's input: the table and then the schedule
abbrev input : List ℕ
input = sample ++ schedule_bytes sample_page

-- what is printed, and what document 01 says
abbrev page : List ℕ → List ℕ → Case
page gives says = case (gives ∷ []) (says ∷ [])

abbrev pub pages : List Case
pages =
    -- M13 the page above
    page (page_for sample sample_page) printed
    -- M2 length 00 22: 1; M5 backup board 0: 7
    ∷ page (page_for (set sample 1 0x22) []) (refused_by 49)
    ∷ page (page_for (set sample 11 0) []) (refused_by 55)
    -- the program, on the same input
    ∷ page (bench_page input) printed
    -- "A table length over 6,260 prints `refused 1`": 18 75 is 6,261
    ∷ page (bench_page (0x18 ∷ 0x75 ∷ [])) (refused_by 49)
    -- "Input that ends early is run as it is": nothing, a table without its last byte, a table and no schedule
    ∷ page (bench_page []) (refused_by 49)
    ∷ page (bench_page (take 36 sample)) (refused_by 49)
    ∷ page (bench_page sample) (refused_by 57)
    -- "The program reads the table (as long as its length bytes say)": with 00 22 a table of 36 bytes, which ends within an instruction
    ∷ page (bench_page (set input 1 0x22)) (refused_by 52)
    -- "all decimal": 0, 9, 10, 4294967295
    ∷ page (decimal 0) (48 ∷ [])
    ∷ page (decimal 9) (57 ∷ [])
    ∷ page (decimal 10) (49 ∷ 48 ∷ [])
    ∷ page (decimal 4294967295) (52 ∷ 50 ∷ 57 ∷ 52 ∷ 57 ∷ 54 ∷ 55 ∷ 50 ∷ 57 ∷ 53 ∷ [])
    ∷ []

pub paged : given pages ≡ said pages
unfolding run guard arrive_number count_number fit bench_page
paged = refl
