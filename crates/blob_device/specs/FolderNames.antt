-- Which names a partition may have where it is a folder.
use Rattle.std.specs.Prelude.{ℕ, Bool, ◌&&◌, ◌||◌, ◌==◌, leb, List, length}
use Rattle.std.specs.List.{list_all}

-- one of the characters a to z, 0 to 9, _ and -
abbrev pub is_folder_byte : ℕ → Bool
is_folder_byte b = (leb 97 b && leb b 122) || (leb 48 b && leb b 57) || (b == 95) || (b == 45)

-- 1 to 64 of them
abbrev pub is_folder_name : List ℕ → Bool
is_folder_name name = leb 1 (length name) && leb (length name) 64 && list_all is_folder_byte name
