mod OneRule
