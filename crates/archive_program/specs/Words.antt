-- The words with which the program is called.
use Rattle.std.specs.Prelude.{◌≡◌, ◌≢◌, ℕ, ◌^◌, ◌≤◌, List, [], ◌∷◌, codes}
use Rattle.std.specs.Fmt.{decimal}

-- a word is the decimal spelling of a number from 1 up to a limit
pub record IsNumberTo (limit : ℕ) (word : List ℕ) (n : ℕ) : Type 0 where
  -- the word spells it
  pub word_is : word ≡ decimal n
  -- it is at least 1
  pub some : 1 ≤ n
  -- and no more than the limit
  pub most : n ≤ limit

-- The words DIR, `prunable` and ITEMS: an archive in a folder, or in memory where DIR is `-`, with ITEMS
-- indices to a section, a number from 1 to 1,048,576.
pub record AreItems (folder kind word : List ℕ) (items : ℕ) : Type 0 where
  -- the folder's word is not empty
  pub named : folder ≢ []
  -- this is the kind
  pub kind_is : kind ≡ codes "prunable"
  -- the last word is the number
  pub number : IsNumberTo (2 ^ 20) word items

-- the words are these three, and others after them
pub record AreWordsFor (words : List (List ℕ)) (items : ℕ) (others : List (List ℕ)) : Type 0 where
  -- this is the folder's word
  pub folder : List ℕ
  -- this is the word of the kind
  pub kind : List ℕ
  -- this is the word of the number
  pub word : List ℕ
  -- they are such three
  pub are_items : AreItems folder kind word items
  -- these are the words
  pub words_are : words ≡ folder ∷ kind ∷ word ∷ others

-- the words `make N`, with a number from 1 to 100,000, stand after the three
pub record AreWordsToMake (words : List (List ℕ)) (items count : ℕ) : Type 0 where
  -- this is the word of the number
  pub word : List ℕ
  -- it spells such a number
  pub number : IsNumberTo 100000 word count
  -- these are the words
  pub words_for : AreWordsFor words items (codes "make" ∷ word ∷ [])

-- What the program is asked for, over an archive where a section has room for so many indices: to serve the
-- script on its input, or one that it generates, of so many records.
pub data Job : Type 0 where
  Script : ℕ → Job
  Make : ℕ → ℕ → Job

-- these words ask for it
abbrev pub AsksFor : List (List ℕ) → Job → Type 0
AsksFor words (Script items) = AreWordsFor words items []
AsksFor words (Make items count) = AreWordsToMake words items count

-- they ask for no job; so do words for another kind, which is not served yet
abbrev pub AreOfNoForm : List (List ℕ) → Type 0
AreOfNoForm words = (job : Job) → ¬ AsksFor words job
